use Rattle.qm_base.proofs.BesideSteps.{PutInSoFar}
use Rattle.qm_base.proofs.beside.put_in.Given as goal

abbrev pub invariant-loop-c : goal.invariant-loop-c
invariant-loop-c l = PutInSoFar l.winding l.planes l.place l.c l.fn.rows l.rows
