use Rattle.qm_base.proofs.SweepSteps.{BegunSoFar}
use Rattle.qm_base.proofs.sweeping.begun.Given as goal

abbrev pub invariant-loop-j : goal.invariant-loop-j
invariant-loop-j l = BegunSoFar l.world l.lanes l.j l.seen.items
