use Rattle.qm_face_layout.proofs.TurnedFaces.{face_turn}
use Rattle.qm_face_corners.proofs.laws.corners_turn.Goals as goal

pub returns : goal.returns
returns c = λ planes bound w into corners convex are i there. face_turn planes bound w into corners convex are i there
