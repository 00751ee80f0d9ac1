use Rattle.std.proofs.Common.{length}
use Rattle.qm_faces.proofs.RowsOfOwners.{no_faces_added, faces_added_more}
use Rattle.qm_faces.proofs.rows.add_faces.Goals as goal

pub loop-i-init : goal.loop-i-init
loop-i-init c = no_faces_added (length c.args.planes.now) c.args.faces.now c.args.brush c.args.rows.now.items

pub loop-i-preserved : goal.loop-i-preserved
loop-i-preserved c = faces_added_more (length c.args.planes.now) c.args.faces.now c.loop-i.i c.args.brush c.args.rows.now.items c.loop-i.rows.items c.add_face.new.rows.items c.loop-i.invariant c.in_ok-add_face.ensures
