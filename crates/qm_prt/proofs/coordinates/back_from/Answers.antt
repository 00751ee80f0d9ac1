use Rattle.qm_listing.proofs.CornersBack.{one_step_back}
use Rattle.qm_prt.proofs.coordinates.back_from.Goals as goal

pub loop-i-preserved : goal.loop-i-preserved
loop-i-preserved c = one_step_back c.args.corners.now _ _ c.args.first c.loop-i.i c.place_back.result c.loop-i.invariant c.place_back.ensures.value c.in_ok-push.ensures.items
