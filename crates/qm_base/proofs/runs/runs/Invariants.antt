use Rattle.qm_base.proofs.RunSteps.{RunsSoFar}
use Rattle.qm_base.proofs.runs.runs.Given as goal

abbrev pub invariant-loop-j : goal.invariant-loop-j
invariant-loop-j l = RunsSoFar l.kinds l.j l.runs.items
