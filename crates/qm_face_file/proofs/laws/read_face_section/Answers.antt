use Rattle.std.proofs.Common.{length}
use Rattle.qm_face_layout.proofs.ValidFaces.{valid_faces_found, valid_faces_again}
use Rattle.qm_face_file.proofs.laws.read_face_section.Goals as goal

pub returns : goal.returns
returns c = λ file bytes faces are. (λ read. valid_faces_found file bytes faces (length bytes) are read, λ written. valid_faces_again file bytes faces written)
