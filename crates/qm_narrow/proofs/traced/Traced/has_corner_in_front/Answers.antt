use Rattle.qm_space.specs.Plane.{IsInFront}
use Rattle.qm_narrow.proofs.SoughtCorners.{none_before_first, none_before_next, found_here, found_nowhere}
use Rattle.qm_narrow.proofs.traced.Traced.has_corner_in_front.Goals as goal

pub loop-i-init : goal.loop-i-init
loop-i-init c = none_before_first c.args.self.now (IsInFront c.args.plane.now)

pub loop-i-preserved : goal.loop-i-preserved
loop-i-preserved c =
    none_before_next c.args.self.now (IsInFront c.args.plane.now) c.loop-i.i c.corner.ensures.value c.is_ahead.ensures c.if-is_ahead.false c.loop-i.invariant

pub returns-then-is_ahead : goal.returns-then-is_ahead
returns-then-is_ahead c =
    found_here c.args.self.now (IsInFront c.args.plane.now) c.loop-i.i c.len-count.result c.len-count.ensures.count c.corner.ensures.value c.is_ahead.ensures c.loop-i-test.true c.if-is_ahead.true

pub returns : goal.returns
returns c = found_nowhere c.args.self.now (IsInFront c.args.plane.now) c.loop-i.i c.len-count.result c.len-count.ensures.count c.loop-i-test.false c.loop-i.invariant
