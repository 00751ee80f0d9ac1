use Rattle.qm_base.proofs.BesideSteps.{clear_none, clear_more}
use Rattle.qm_base.proofs.beside.clear.Goals as goal

pub loop-c-init : goal.loop-c-init
loop-c-init c = rw c.new-rows.ensures.items (clear_none c.args.lanes)

pub loop-c-preserved : goal.loop-c-preserved
loop-c-preserved c =
    rw c.in_ok-push.ensures.items (clear_more c.args.lanes c.loop-c._c c.loop-c.rows.items (record { front = c.in_ok-front.front; behind = c.in_ok-behind.behind }) c.loop-c.invariant c.in_ok-front.ensures c.in_ok-behind.ensures)
