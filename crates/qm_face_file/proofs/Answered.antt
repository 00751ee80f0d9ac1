-- What an answer says of the bytes, where it is the one that reading gives.
use Rattle.std.proofs.Common.{◌≡◌, ℕ, List, length, Result, Ok, Err, refl, sym, ◌∙◌}
use Rattle.std.specs.Prelude.{IfOk, MatchResult}
use Rattle.qm_formats.specs.Layout.{Decoded, got}
use Rattle.qm_formats.specs.Fields.{AreBytes}
use Rattle.qm_formats.specs.FileParts.{FileFaultKind}
use Rattle.qm_formats.specs.TreeFile.{TreeFile}
use Rattle.qm_face_layout.specs.declared.face_record.FaceRecord.{FaceRecord}
use Rattle.qm_face_layout.specs.FacesLayout.{AreFacesBytes, read_faces}
use Rattle.qm_face_layout.proofs.ValidFaces.{valid_faces_found, valid_faces_again}
use Rattle.qm_face_file.specs.declared.faces_fault.FacesFault.{FacesFault}
use Rattle.qm_face_file.specs.declared.faces_fault.FacesFault.TheVariants as faults
use Rattle.qm_face_file.specs.Answers.{IsFaultOfFaces, AnswersFaces}

-- a fault but want of memory is none where faces are read
no_fault : (fault : FacesFault) (answer : Decoded FileFaultKind (List FaceRecord)) (faces : List FaceRecord) (next : ℕ) → answer ≡ got faces next → IsFaultOfFaces fault answer → fault ≡ faults.Memory
no_fault (faults.Short offset) answer faces next is fault = absurd (let e = sym is ∙ fault in cc)
no_fault (faults.Form offset) answer faces next is fault = absurd (let e = sym is ∙ fault in cc)
no_fault (faults.Trailing offset) answer faces next is fault = absurd (let e = sym is ∙ fault in cc)
no_fault faults.Memory answer faces next is fault = refl

module _ (file : TreeFile) (bytes : List ℕ) (are : AreBytes bytes) where
  pub faces_found : (answer : Result (List FaceRecord) FacesFault) → AnswersFaces (λ faces. faces) (λ _. length bytes) answer (read_faces file bytes) → IfOk answer (AreFacesBytes file bytes)
  faces_found (Ok faces) is = valid_faces_found file bytes faces (length bytes) are is
  faces_found (Err fault) is = tt

  pub faces_only : (answer : Result (List FaceRecord) FacesFault) → AnswersFaces (λ faces. faces) (λ _. length bytes) answer (read_faces file bytes) → (faces : List FaceRecord) → AreFacesBytes file bytes faces → MatchResult answer (λ found. found ≡ faces) (λ fault. fault ≡ faults.Memory)
  faces_only (Ok found) is faces written =
      let e = sym is ∙ valid_faces_again file bytes faces written in
      cc
  faces_only (Err fault) is faces written = no_fault fault (read_faces file bytes) faces (length bytes) (valid_faces_again file bytes faces written) is
