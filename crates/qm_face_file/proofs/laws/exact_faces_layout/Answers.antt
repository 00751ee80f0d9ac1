use Rattle.qm_face_layout.proofs.ExactFaces.{faces_exact}
use Rattle.qm_face_file.proofs.laws.exact_faces_layout.Goals as goal

pub returns : goal.returns
returns c = faces_exact
