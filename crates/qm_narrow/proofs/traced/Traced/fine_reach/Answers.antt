use Rattle.std.proofs.Common.{ℤ, ◌<◌, length, sym, subst, arith, lit≤}
use Rattle.qm_numbers.proofs.Bits.{kept_64}
use Rattle.qm_narrow.specs.inner.Turn.{HasSize, size_bound}
use Rattle.qm_narrow.proofs.Traces.{spot_at}
use Rattle.qm_narrow.proofs.FineReaches.{fine_begins, fine_both}
use Rattle.qm_narrow.proofs.traced.Traced.fine_reach.Goals as goal

pub loop-spot-init : goal.loop-spot-init
loop-spot-init c =
    let within : 0 < length c.args.self.now.edges = let n = c.len-corners.ensures.count in let m = c.len-corners.ensures.enough in omega arith in
    fine_begins c.args.self.now c.args.normal.now 0 within (c.len-corners.ensures.in_world.convex.weight 0 within) c.spot.result.now.fine c.spot.ensures.fine
    _ (subst (λ (z : ℤ). HasSize c.args.normal.now z) (sym (kept_64 c.size_of-slack.result size_bound c.size_of-slack.ensures.small (lit≤ tt))) c.size_of-slack.ensures.exact)
    c.fine_reach-reach.result c.fine_reach-reach.ensures

pub fine_reach-requires-clause-spot : goal.fine_reach-requires-clause-spot
fine_reach-requires-clause-spot c =
    (_, (spot_at c.self.inside.winding c.args.self.now c.self.inside.lists.corners.items c.self.inside.lists.spots.items c.deref-spot-items.result.now c.loop-spot.spot-index _ c.self.invariant c.self.view_is c.deref-spot-items.ensures.value c.loop-spot-test.true).1)

pub loop-spot-preserved : goal.loop-spot-preserved
loop-spot-preserved c =
    let spot = spot_at c.self.inside.winding c.args.self.now c.self.inside.lists.corners.items c.self.inside.lists.spots.items c.deref-spot-items.result.now c.loop-spot.spot-index _ c.self.invariant c.self.view_is c.deref-spot-items.ensures.value c.loop-spot-test.true in
    fine_both c.args.self.now c.args.normal.now c.loop-spot.reach c.fine_reach.result c.and-reach.result c.loop-spot.invariant
    (fine_begins c.args.self.now c.args.normal.now c.loop-spot.spot-index spot.0 (c.len-corners.ensures.in_world.convex.weight c.loop-spot.spot-index spot.0) _ spot.1.fine
    _ (subst (λ (z : ℤ). HasSize c.args.normal.now z) (sym (kept_64 c.size_of-slack.result size_bound c.size_of-slack.ensures.small (lit≤ tt))) c.size_of-slack.ensures.exact)
    c.fine_reach.result c.fine_reach.ensures)
    c.and-reach.ensures.low c.and-reach.ensures.high
