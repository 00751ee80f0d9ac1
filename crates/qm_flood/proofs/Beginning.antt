-- How the steps of a tree's leaves begin, and how the leaves that were found are passed.
use Rattle.std.proofs.Common.{◌≡◌, ℕ, suc, ◌+◌, ◌<◌, ◌≤◌, List, [], ◌∷◌, ◌++◌, length, get_or, slice_get, Some, sym, ap, ◌∙◌, subst, arith}
use Rattle.std.specs.List.{All}
use Rattle.std.proofs.lemmas.List.Elements.{Contains-get_or}
use Rattle.std.proofs.lemmas.Option.{slice_get-get_or, slice_get_within}
use Rattle.qm_lists.specs.inner.Steps.{IsBegun, IsSpread}
use Rattle.qm_lists.proofs.Elements.{Contains-at}
use Rattle.qm_lists.proofs.Spreads.{spread_passes, spread_at_most, steps_at_most, spread_ends, steps_within}
use Rattle.qm_lists.proofs.SpreadSteps.{begun_yes, begun_no, begun_ends}
use Rattle.qm_partition.specs.Tree.{Tree}
use Rattle.qm_partition.specs.Counting.{leaf_count}
use Rattle.qm_contacts.specs.Contacts.{AreNeighbours}
use Rattle.qm_contacts.specs.Reached.{Begins, FloodsInto}
use Rattle.qm_contacts.proofs.FloodedLeaves.{touched_within, passable_within, goes_to_neighbours}
use Rattle.qm_flood.specs.inner.Spreading.{AreLeafSteps, IsSpreading, CanGoOn, GoesOnToOneOf}

-- all leaves are gone through
pub begun_spreading : (tree : Tree) (steps found : List ℕ) → length steps ≡ leaf_count tree.shape → IsBegun (Begins tree) steps found → IsSpreading tree steps found 0
begun_spreading tree steps found one_each begun = record {
  one_each = one_each;
  spread = begun_ends (Begins tree) steps found begun (FloodsInto tree) (λ place is. let within = passable_within tree place is.passable in omega (arith, within, one_each));
}

-- ---- the leaf that is passed next

module _ (tree : Tree) (steps found : List ℕ) (passed leaf : ℕ) (spreading : IsSpreading tree steps found passed) (left : passed < length found) (at : get_or found passed leaf ≡ leaf) where
  stands : slice_get found passed ≡ Some leaf
  stands = slice_get-get_or found passed leaf left ∙ ap Some at

  pub next_within : leaf < leaf_count tree.shape
  next_within =
      let some = (spreading.spread.listed leaf).1 (Contains-at found passed leaf stands) in
      let within = steps_within steps leaf some in
      let each = spreading.one_each in
      omega (arith, within, each)

  pub can_go_on : CanGoOn tree leaf steps found
  can_go_on = record {
    one_each = spreading.one_each;
    within = let within = next_within in let each = spreading.one_each in omega (arith, within, each);
    few = steps_at_most (Begins tree) (FloodsInto tree) steps found passed leaf spreading.spread;
    listed = spreading.spread.listed;
    once = spreading.spread.once;
  }

  pub is_passed : (neighbours new_steps new_found : List ℕ) → AreNeighbours tree leaf neighbours → GoesOnToOneOf tree neighbours leaf steps new_steps found new_found → IsSpreading tree new_steps new_found (passed + 1)
  is_passed neighbours new_steps new_found are goes = record {
    one_each = goes.same_length ∙ spreading.one_each;
    spread = subst (λ (n : ℕ). IsSpread (Begins tree) (FloodsInto tree) new_steps new_found n) one_more (spread_passes (Begins tree) (FloodsInto tree) steps new_steps found new_found passed leaf spreading.spread stands (goes_to_neighbours tree leaf neighbours steps new_steps found new_found are goes.spreads));
  }
    where
      one_more : suc passed ≡ passed + 1
      one_more = omega arith

-- neighbours are leaves of the tree
pub neighbours_within : (tree : Tree) (leaf : ℕ) (neighbours : List ℕ) → AreNeighbours tree leaf neighbours → All (λ other. other < leaf_count tree.shape) neighbours
neighbours_within tree leaf neighbours are k d within = touched_within tree leaf (get_or neighbours k d) ((are.touch (get_or neighbours k d)).0 (Contains-get_or neighbours k d within))

-- ---- the end

pub less_left : (tree : Tree) (steps found : List ℕ) (passed : ℕ) → IsSpreading tree steps found passed → length found ≤ length steps
less_left tree steps found passed spreading = spread_at_most (Begins tree) (FloodsInto tree) steps found passed spreading.spread

pub all_passed : (tree : Tree) (steps found : List ℕ) (passed : ℕ) → IsSpreading tree steps found passed → length found ≤ passed → AreLeafSteps tree steps
all_passed tree steps found passed spreading all = record {
  one_each = spreading.one_each;
  are = spread_ends (Begins tree) (FloodsInto tree) steps found (record {
    listed = spread.listed;
    reached = spread.reached;
    first = spread.first;
    behind = spread.behind;
    closed = λ i from to before at edge. spread.closed i from to (omega (arith, before, all)) at edge;
    ascends = spread.ascends;
    near = λ next place at listed. absurd (let within = slice_get_within found (length found) next at in omega (arith, within));
    low = spread.low;
    once = spread.once;
  });
}
  where
    spread : IsSpread (Begins tree) (FloodsInto tree) steps found passed
    spread = spreading.spread

-- one leaf more is gone through
module _ (tree : Tree) (steps found : List ℕ) (leaf : ℕ) (one_each : length steps ≡ leaf) (begun : IsBegun (Begins tree) steps found) where
  pub one_begins : Begins tree leaf → IsBegun (Begins tree) (steps ++ 1 ∷ []) (found ++ leaf ∷ [])
  one_begins is = subst (λ (k : ℕ). IsBegun (Begins tree) (steps ++ 1 ∷ []) (found ++ k ∷ [])) one_each (begun_yes (Begins tree) steps found begun (subst (Begins tree) (sym one_each) is))

  pub none_begins : (Begins tree leaf → ⊥) → IsBegun (Begins tree) (steps ++ 0 ∷ []) found
  none_begins never = begun_no (Begins tree) steps found begun (λ is. never (subst (Begins tree) one_each is))
