use Rattle.std.proofs.Common.{◌∙◌, sym, arith}
use Rattle.qm_base.proofs.LaneSteps.{lane_added, all_have_lanes}
use Rattle.qm_base.proofs.lane.lanes_in_turn.Goals as goal

pub loop-p-preserved : goal.loop-p-preserved
loop-p-preserved c =
    let value = c.pane-pane.ensures in
    let of = c.of.ensures in
    rw c.in_ok-push.ensures.items (lane_added c.args.world.now.portals c.loop-p.lanes.items c.loop-p.p c.loop-p.invariant c.of.result
    (record { portal = value.0; portal_is = rw of.portal value.1; into = sym value.3 ∙ of.into })
    of.portal)

pub returns : goal.returns
returns c =
    all_have_lanes c.args.world.now.portals c.loop-p.lanes.items c.loop-p.p c.loop-p.invariant
    (let end = c.loop-p-test.false in let most = c.loop-p.auto.p-end in let count = c.portals-p-end.ensures in omega (arith, end, most, count))
