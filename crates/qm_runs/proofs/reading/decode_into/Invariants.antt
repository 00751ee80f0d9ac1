use Rattle.std.proofs.Common.{◌≡◌, ◌≤◌, ℕ, ◌+◌, ◌-◌, Bool, List, length}
use Rattle.qm_lists.specs.inner.ReadRuns.{read_behind, read_due}
use Rattle.qm_formats.specs.Runs.{read_runs}
use Rattle.qm_runs.proofs.reading.decode_into.Given as goal

-- some of the row is read, and what is read of the rest completes it
pub record IsReadSoFar (width : ℕ) (bytes row rest : List ℕ) (used : ℕ) (behind_run : Bool) : Type 0 where
  pub whole : read_runs width bytes ≡ read_behind row used (read_due (width - length row) behind_run rest)
  pub fits : length row ≤ width
  pub there : used + length rest ≡ length bytes

abbrev pub invariant-loop-rest : goal.invariant-loop-rest
invariant-loop-rest l = IsReadSoFar l.width l.bytes l.row.items l.rest l.used l.behind_run

abbrev pub decreases-loop-rest : goal.decreases-loop-rest
decreases-loop-rest l = l.width - length l.row.items
