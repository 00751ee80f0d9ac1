use Rattle.std.specs.Prelude.{◌≡◌, ◌<◌, ◌≤◌, ℕ, eqb, List, length, Contains, ◌↔◌}
use Rattle.std.specs.List.{IsDistinct}
use Rattle.qm_lists.specs.inner.Steps.{steps_of, AreSteps, IsSpread, SpreadsOn}
use Rattle.qm_partition.specs.Tree.{Tree}
use Rattle.qm_partition.specs.Counting.{leaf_count}
use Rattle.qm_contacts.specs.Reached.{IsPassable, Begins, FloodsInto}

-- How the steps of a tree's leaves are found.

-- the steps of all leaves of a tree
pub record AreLeafSteps (tree : Tree) (steps : List ℕ) : Type 0 where
  pub one_each : length steps ≡ leaf_count tree.shape
  pub are : AreSteps (Begins tree) (FloodsInto tree) steps

-- those found so far, where the first of the leaves that were found are passed
pub record IsSpreading (tree : Tree) (steps found : List ℕ) (passed : ℕ) : Type 0 where
  pub one_each : length steps ≡ leaf_count tree.shape
  pub spread : IsSpread (Begins tree) (FloodsInto tree) steps found passed

-- the leaf can be passed next
pub record CanGoOn (tree : Tree) (leaf : ℕ) (steps found : List ℕ) : Type 0 where
  pub one_each : length steps ≡ leaf_count tree.shape
  pub within : leaf < length steps
  pub few : steps_of steps leaf ≤ length steps
  pub listed : (place : ℕ) → (0 < steps_of steps place) ↔ Contains found place
  pub once : IsDistinct eqb found

-- to go to those of some leaves that can be passed
abbrev pub GoesToOneOf : Tree → List ℕ → ℕ → ℕ → Type 0
GoesToOneOf tree others from to = Contains others to × IsPassable tree to

-- what going to them does
pub record GoesOnToOneOf (tree : Tree) (others : List ℕ) (leaf : ℕ) (old_steps steps old_found found : List ℕ) : Type 0 where
  pub same_length : length steps ≡ length old_steps
  pub spreads : SpreadsOn (GoesToOneOf tree others) leaf old_steps steps old_found found
