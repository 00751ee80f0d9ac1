use Rattle.std.proofs.Common.{length}
use Rattle.qm_runs.proofs.Written.{IsWritten}
use Rattle.qm_runs.proofs.writing.append_runs.Given as goal

abbrev pub invariant-loop-first : goal.invariant-loop-first
invariant-loop-first l = IsWritten l.fn.out.items l.out.items l.row l.rest

abbrev pub decreases-loop-first : goal.decreases-loop-first
decreases-loop-first l = length l.rest
