use Rattle.qm_listing.proofs.CornersBack.{one_corner_more, some_corners}
use Rattle.qm_prt.proofs.coordinates.corners_of.Goals as goal

pub loop-i-preserved : goal.loop-i-preserved
loop-i-preserved c = one_corner_more c.args.winding.now _ _ c.loop-i.i c.corner.result c.coordinates_of.result c.loop-i.invariant c.corner.ensures.exact c.coordinates_of.ensures c.in_ok-push.ensures.items

pub returns-clause-some : goal.returns-clause-some
returns-clause-some c = some_corners c.args.winding.now _ c.len-count.result c.loop-i.i c.loop-i.invariant c.len-count.ensures.enough c.loop-i-test.false
