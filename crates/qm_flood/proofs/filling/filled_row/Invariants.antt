use Rattle.std.proofs.Common.{◌≡◌, ◌<◌, ℕ, length, ◌↔◌}
use Rattle.qm_lists.specs.WorkList.{IsIn}
use Rattle.qm_lists.specs.inner.Steps.{steps_of}
use Rattle.qm_flood.proofs.filling.filled_row.Given as goal

-- the row has those of the places so far that have steps
abbrev pub invariant-loop-leaf : goal.invariant-loop-leaf
invariant-loop-leaf l = record {
  one_each : length l.row ≡ length l.steps;
  places : (k : ℕ) → IsIn l.row k ↔ (k < l.leaf × (0 < steps_of l.steps k));
}
