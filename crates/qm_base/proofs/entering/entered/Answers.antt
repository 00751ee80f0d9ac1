use Rattle.std.proofs.Common.{arith}
use Rattle.qm_base.proofs.EnteringSteps.{entered_none, entered_more, entered_all}
use Rattle.qm_base.proofs.entering.entered.Goals as goal

pub loop-p-init : goal.loop-p-init
loop-p-init c = rw c.new-entered.ensures.items (entered_none c.args.world.now)

pub loop-p-preserved : goal.loop-p-preserved
loop-p-preserved c =
    let value = c.to.ensures.value in
    rw c.in_ok-push.ensures.items (entered_more c.args.world.now c.loop-p.p c.loop-p.entered.items c.to.result value.0 c.loop-p.invariant value.1 value.2 c.to.ensures.within)

pub returns : goal.returns
returns c =
    entered_all c.args.world.now c.loop-p.p c.loop-p.entered.items
    (let end = c.loop-p-test.false in let most = c.loop-p.auto.p-end in let count = c.portals-p-end.ensures in omega (arith, end, most, count))
    c.loop-p.invariant
