use Rattle.qm_base.proofs.BesideSteps.{BesidesSoFar}
use Rattle.qm_base.proofs.beside.besides.Given as goal

abbrev pub invariant-loop-k : goal.invariant-loop-k
invariant-loop-k l = BesidesSoFar l.world.portals l.lanes l.planes l.k l.rows.items
