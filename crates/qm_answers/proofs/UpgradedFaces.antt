-- A file and the same file in version 2 have the same faces.
use Rattle.std.proofs.Common.{◌≡◌, ℕ, List, Option, Some, None, refl, ap}
use Rattle.std.proofs.lemmas.List.Elements.{All-weaker}
use Rattle.qm_formats.specs.TreeFile.{TreeFile}
use Rattle.qm_formats.specs.Upgraded.{upgraded}
use Rattle.qm_face_layout.specs.declared.face_record.FaceRecord.{FaceRecord}
use Rattle.qm_face_layout.specs.ValidFace.{IsFaceOfFile}
use Rattle.qm_face_layout.specs.FacesLayout.{AreFacesBytes}
use Rattle.qm_answers.specs.DecodedSections.{IsOnlyOne, section_bytes, decoded_by, kind_of_faces, faces_answer, decoded_faces}
use Rattle.qm_answers.proofs.OnlyContents.{is_faces_answer}

-- files of one tree and one bound
module _ (file other : TreeFile) (tree : other.tree ≡ file.tree) (bound : other.bound ≡ file.bound) where
  stands : (face : FaceRecord) → IsFaceOfFile file face → IsFaceOfFile other face
  stands face is = record {
    leaf_there = rw tree is.leaf_there;
    leaf_fits = is.leaf_fits;
    brush_fits = is.brush_fits;
    face_fits = is.face_fits;
    enough = is.enough;
    few = is.few;
    corners = rw (tree, bound) is.corners;
  }

  stand : (bytes : List ℕ) (faces : List FaceRecord) → AreFacesBytes file bytes faces → AreFacesBytes other bytes faces
  stand bytes faces is = record {
    are_valid = record { few = is.are_valid.few; each = All-weaker (IsFaceOfFile file) (IsFaceOfFile other) stands faces is.are_valid.each };
    bytes_are = is.bytes_are;
  }

module _ (file : TreeFile) where
  same_found : (bytes : List ℕ) (found : Option (List FaceRecord)) → IsOnlyOne (AreFacesBytes file bytes) found → IsOnlyOne (AreFacesBytes (upgraded file) bytes) found
  same_found bytes None none = λ faces is. none faces (stand (upgraded file) file refl refl bytes faces is)
  same_found bytes (Some faces) is = stand file (upgraded file) refl refl bytes faces is

  same_section : (bytes : Option (List ℕ)) → decoded_by (λ b. (faces_answer file b).0) bytes ≡ decoded_by (λ b. (faces_answer (upgraded file) b).0) bytes
  same_section None = refl
  same_section (Some bytes) = ap (λ (found : Option (List FaceRecord)). decoded_by (λ b. found) (Some bytes)) (is_faces_answer (upgraded file) bytes (faces_answer file bytes).0 (same_found bytes (faces_answer file bytes).0 (faces_answer file bytes).1))

  pub same_faces : decoded_faces file ≡ decoded_faces (upgraded file)
  same_faces = same_section (section_bytes file.sections kind_of_faces)
