use Rattle.qm_base.proofs.SweepSteps.{SweepDownTo}
use Rattle.qm_base.proofs.sweeping.sweep_down.Given as goal

abbrev pub invariant-loop-leaf : goal.invariant-loop-leaf
invariant-loop-leaf l = SweepDownTo l.world l.ways l.leaf l.fn.seen l.seen l.fn.passed l.passed l.due
