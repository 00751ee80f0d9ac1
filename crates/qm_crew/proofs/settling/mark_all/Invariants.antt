use Rattle.std.proofs.Common.{◌≡◌, ◌⊎◌, ℕ, length, Contains}
use Rattle.qm_lists.specs.WorkList.{IsIn}
use Rattle.qm_crew.proofs.settling.mark_all.Given as goal

-- a place that is set was so, or the list has it
abbrev pub invariant-loop-number : goal.invariant-loop-number
invariant-loop-number l = record {
  long : length l.row ≡ length l.fn.row;
  only : (number : ℕ) → IsIn l.row number → IsIn l.fn.row number ⊎ Contains l.list number;
}
