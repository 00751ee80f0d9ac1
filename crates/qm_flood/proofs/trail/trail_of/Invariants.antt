use Rattle.std.proofs.Common.{◌<◌}
use Rattle.qm_lists.specs.inner.Steps.{steps_of}
use Rattle.qm_flood.proofs.GoingDown.{IsUnderWay}
use Rattle.qm_flood.proofs.trail.trail_of.Given as goal

abbrev pub invariant-loop-next : goal.invariant-loop-next
invariant-loop-next l = record {
  some : 0 < steps_of l.steps l.last;
  completes : IsUnderWay l.touches l.steps l.fn.leaf l.last l.trail.items;
}

abbrev pub decreases-loop-next : goal.decreases-loop-next
decreases-loop-next l = steps_of l.steps l.last
