use Rattle.qm_base.proofs.RunSteps.{LanesSoFar}
use Rattle.qm_base.proofs.runs.lanes_of.Given as goal

abbrev pub invariant-loop-j : goal.invariant-loop-j
invariant-loop-j l = LanesSoFar l.kinds l.kind l.j l.lanes
