use Rattle.qm_base.proofs.WaySteps.{BeforeSoFar}
use Rattle.qm_base.proofs.ways.lanes_before.Given as goal

abbrev pub invariant-loop-run : goal.invariant-loop-run
invariant-loop-run l = BeforeSoFar l.table.beside.items l.runs l.run-index l.k l.lanes
