use Rattle.std.proofs.Common.{length}
use Rattle.trace_bench.proofs.count.Given as goal

abbrev pub decreases-loop-spans : goal.decreases-loop-spans
decreases-loop-spans l = length l.tracer
