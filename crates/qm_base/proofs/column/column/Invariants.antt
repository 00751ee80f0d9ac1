use Rattle.qm_base.proofs.ColumnSteps.{ColumnSoFar}
use Rattle.qm_base.proofs.column.column.Given as goal

abbrev pub invariant-loop-k : goal.invariant-loop-k
invariant-loop-k l = ColumnSoFar l.seen l.bit l.k l.row
