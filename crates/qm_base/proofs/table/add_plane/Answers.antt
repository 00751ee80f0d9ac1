use Rattle.std.proofs.Common.{get_or}
use Rattle.std.proofs.lemmas.Option.{slice_get-get_or}
use Rattle.qm_base.proofs.TableSteps.{plane_had, plane_more}
use Rattle.qm_base.proofs.table.add_plane.Goals as goal

pub returns-in_ok-push : goal.returns-in_ok-push
returns-in_ok-push c =
    let lanes = c.args.lanes.now in
    rw c.in_ok-push.ensures.items (plane_more lanes c.args.k c.args.planes.now.items (get_or lanes c.args.k c.index-lanes-k.result) (slice_get-get_or lanes c.args.k c.index-lanes-k.result c.requires.lane))

pub returns-else-not-has_plane_before : goal.returns-else-not-has_plane_before
returns-else-not-has_plane_before c = plane_had c.args.lanes.now c.args.k c.args.planes.now.items c.requires.before (c.has_plane_before.ensures c.if-not-has_plane_before.false)
