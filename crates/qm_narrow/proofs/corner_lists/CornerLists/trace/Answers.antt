use Rattle.std.proofs.Common.{arith}
use Rattle.qm_narrow.proofs.Traces.{tracing_begins, tracing_more, tracing_ends}
use Rattle.qm_narrow.proofs.corner_lists.CornerLists.trace.Goals as goal

pub loop-i-init : goal.loop-i-init
loop-i-init c = tracing_begins c.args.winding.now _ _ c.in_ok-make_ready.ensures.corners c.in_ok-make_ready.ensures.spots

pub loop-i-preserved : goal.loop-i-preserved
loop-i-preserved c =
    tracing_more c.args.winding.now c.loop-i.self.corners.items c.push-in-loop-i.new.self.items c.loop-i.self.spots.items c.push.new.self.items c.loop-i.i c.corner-corner.result c.of.result
    c.in_ok-push-2.ensures.items c.in_ok-push.ensures.items c.loop-i.invariant c.corner-corner.ensures.exact c.of.ensures

pub returns : goal.returns
returns c = tracing_ends c.args.winding.now _ _ c.loop-i.i (let t = c.loop-i-test.false in let a = c.loop-i.auto.i-end in let n = c.len-i-end.ensures.count in omega arith) c.loop-i.invariant
