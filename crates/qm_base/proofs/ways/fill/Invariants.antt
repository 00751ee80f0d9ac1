use Rattle.qm_base.proofs.WaySteps.{WaysSoFar}
use Rattle.qm_base.proofs.ways.fill.Given as goal

abbrev pub invariant-loop-k : goal.invariant-loop-k
invariant-loop-k l = WaysSoFar l.table.lanes.items l.table.kinds.items l.table.beside.items l.block l.k l.ways
