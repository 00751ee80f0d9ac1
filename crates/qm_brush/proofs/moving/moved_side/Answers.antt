use Rattle.qm_brush.proofs.MovedFaces.{face_near}
use Rattle.qm_brush.proofs.moving.moved_side.Goals as goal

pub moved_outward-requires-clause-near : goal.moved_outward-requires-clause-near
moved_outward-requires-clause-near c = rw c.plane_of_face-plane.ensures.value (face_near c.args.face.now c.requires.coordinates c.requires.plane)
