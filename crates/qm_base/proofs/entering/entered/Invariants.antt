use Rattle.qm_base.proofs.EnteringSteps.{EnteredSoFar}
use Rattle.qm_base.proofs.entering.entered.Given as goal

abbrev pub invariant-loop-p : goal.invariant-loop-p
invariant-loop-p l = EnteredSoFar l.world l.p l.entered.items
