use Rattle.qm_face_layout.proofs.FaceFaults.{face_fault_in_words, face_fault_again}
use Rattle.qm_face_file.proofs.laws.first_faces_fault.Goals as goal

pub returns : goal.returns
returns c = λ file bytes fault place are. (λ read. face_fault_in_words file bytes are fault place read, λ words. face_fault_again file bytes are fault place words)
