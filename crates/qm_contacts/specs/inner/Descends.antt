use Rattle.std.specs.Prelude.{◌≡◌, ℕ, ◌+◌, ◌<◌, ◌≤◌, List, [], ◌∷◌}
use Rattle.qm_lists.specs.inner.Steps.{steps_of}
use Rattle.qm_partition.specs.Tree.{Tree}
use Rattle.qm_contacts.specs.Contact.{Touch}

-- Steps count how near a leaf is to the outside: one step where it touches the outside.

-- of the leaves that a leaf touches, the least of those that have one step less
pub record IsNextOfTrail (tree : Tree) (steps : List ℕ) (k next : ℕ) : Type 0 where
  pub some : 0 < steps_of steps next
  pub one_less : steps_of steps k ≡ steps_of steps next + 1
  pub touch : Touch tree k next
  pub least : (other : ℕ) → Touch tree k other → steps_of steps other ≡ steps_of steps next → next ≤ other

-- a way that takes one step less with each leaf, and of several such leaves the least, is the trail
pub data Descends (tree : Tree) (steps : List ℕ) : ℕ → List ℕ → Type 0 where
  out : {k : ℕ} → steps_of steps k ≡ 1 → Descends tree steps k (k ∷ [])
  down : {k next : ℕ} {rest : List ℕ} → IsNextOfTrail tree steps k next → Descends tree steps next (next ∷ rest) → Descends tree steps k (k ∷ next ∷ rest)
