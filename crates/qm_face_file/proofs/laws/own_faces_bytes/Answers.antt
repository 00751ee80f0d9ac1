use Rattle.qm_face_layout.proofs.ExactFaces.{own_face_bytes}
use Rattle.qm_face_file.proofs.laws.own_faces_bytes.Goals as goal

pub returns : goal.returns
returns c = own_face_bytes
