use Rattle.std.proofs.Common.{arith}
use Rattle.qm_narrow.proofs.Traces.{spot_at}
use Rattle.qm_narrow.proofs.Outlooks.{reach_begins, reach_more}
use Rattle.qm_narrow.proofs.traced.Traced.reach.Goals as goal

pub of-reach-requires-clause-below_in : goal.of-reach-requires-clause-below_in
of-reach-requires-clause-below_in c = c.spot.ensures.below_in

pub of-reach-requires-clause-above_in : goal.of-reach-requires-clause-above_in
of-reach-requires-clause-above_in c = c.spot.ensures.above_in

pub loop-spot-init : goal.loop-spot-init
loop-spot-init c =
    reach_begins c.args.self.now c.len-corners.ensures.in_world.convex c.args.normal.now 0 (let n = c.len-corners.ensures.count in let m = c.len-corners.ensures.enough in omega arith)
    c.spot.result.now c.spot.ensures c.of-reach.result c.of-reach.ensures.low c.of-reach.ensures.high

pub with-reach-requires-clause-below_in : goal.with-reach-requires-clause-below_in
with-reach-requires-clause-below_in c = (spot_at c.self.inside.winding c.args.self.now c.self.inside.lists.corners.items c.self.inside.lists.spots.items c.deref-spot-items.result.now c.loop-spot.spot-index _ c.self.invariant c.self.view_is c.deref-spot-items.ensures.value c.loop-spot-test.true).1.below_in

pub with-reach-requires-clause-above_in : goal.with-reach-requires-clause-above_in
with-reach-requires-clause-above_in c = (spot_at c.self.inside.winding c.args.self.now c.self.inside.lists.corners.items c.self.inside.lists.spots.items c.deref-spot-items.result.now c.loop-spot.spot-index _ c.self.invariant c.self.view_is c.deref-spot-items.ensures.value c.loop-spot-test.true).1.above_in

pub loop-spot-preserved : goal.loop-spot-preserved
loop-spot-preserved c =
    let spot = spot_at c.self.inside.winding c.args.self.now c.self.inside.lists.corners.items c.self.inside.lists.spots.items c.deref-spot-items.result.now c.loop-spot.spot-index _ c.self.invariant c.self.view_is c.deref-spot-items.ensures.value c.loop-spot-test.true in
    reach_more c.args.self.now c.len-corners.ensures.in_world.convex c.args.normal.now c.loop-spot.spot-index spot.0 _ spot.1
    c.loop-spot.reach c.with-reach.result c.loop-spot.invariant c.with-reach.ensures.low c.with-reach.ensures.high
