use Rattle.std.proofs.Common.{◌≡◌, ℕ, ◌∷◌, length}
use Rattle.qm_lists.specs.WorkList.{IsIn}
use Rattle.qm_crew.specs.inner.TurnsTaken.{IsInSomeList}
use Rattle.qm_crew.proofs.settling.listed.Given as goal

-- a place that is set stands in a list
abbrev pub invariant-loop-list : goal.invariant-loop-list
invariant-loop-list l = record {
  long : length l.row ≡ length l.world.portals;
  stands : (number : ℕ) → IsIn l.row number → IsInSomeList (l.first ∷ l.others) number;
}
