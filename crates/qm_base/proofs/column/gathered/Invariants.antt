use Rattle.qm_base.proofs.ColumnSteps.{GatheredSoFar}
use Rattle.qm_base.proofs.column.gathered.Given as goal

abbrev pub invariant-loop-i : goal.invariant-loop-i
invariant-loop-i l = GatheredSoFar l.words l.bit l.i l.gathered
