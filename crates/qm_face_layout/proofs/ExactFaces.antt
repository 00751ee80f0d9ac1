-- The section of faces is read exactly.
use Rattle.std.proofs.Common.{◌≡◌, ◌≤◌, ℕ, List, ◌++◌, length, refl, sym, ap, ◌∙◌}
use Rattle.std.specs.Prelude.{IsTrue}
use Rattle.std.specs.Int.{w64}
use Rattle.qm_formats.specs.Layout.{got}
use Rattle.qm_formats.specs.Fields.{AreBytes, unsigned, signed}
use Rattle.qm_formats.specs.Exact.{IsExact}
use Rattle.qm_formats.specs.FileParts.{short, trailing, section_form}
use Rattle.qm_formats.specs.TreeFile.{TreeFile}
use Rattle.qm_formats.proofs.ExactParts.{tested_exact, part_exact, last_part_exact, exact_of_parts, each_exact}
use Rattle.qm_formats.proofs.ExactFields.{unsigned_32_exact, unsigned_64_exact, signed_64_exact}
use Rattle.qm_formats.proofs.ExactFile.{right_each_length}
use Rattle.qm_formats.proofs.ManyBytes.{many_bytes}
use Rattle.qm_formats.proofs.ReadToEnd.{all_found, all_again, read_ends}
use Rattle.qm_face_layout.specs.declared.face_record.FaceRecord.{FaceRecord}
use Rattle.qm_face_layout.specs.FacesLayout.{face_corner_layout, face_corners_layout, face_parts_layout, is_face, face_layout, faces_layout, faces_bytes, read_faces}

pub face_corner_exact : IsExact face_corner_layout
unfolding face_corner_layout
face_corner_exact = each_exact (λ _. signed short w64) (λ _. signed_64_exact short) 0 3

pub face_corners_exact : IsExact face_corners_layout
unfolding face_corners_layout
face_corners_exact =
    exact_of_parts _ (
    part_exact _ _ _ _ (unsigned_32_exact short) (λ count _.
    last_part_exact _ _ _ _ (each_exact (λ _. face_corner_layout) (λ _. face_corner_exact) 0 count) (λ corners right.
    record { before = record { before = tt; is = right_each_length (λ _. face_corner_layout) 0 count corners right }; is = refl }) (λ corners known. refl)))

pub face_parts_exact : IsExact face_parts_layout
unfolding face_parts_layout
face_parts_exact =
    exact_of_parts _ (
    part_exact _ _ _ _ (unsigned_64_exact short) (λ leaf _.
    part_exact _ _ _ _ (unsigned_64_exact short) (λ brush _.
    part_exact _ _ _ _ (unsigned_32_exact short) (λ place _.
    last_part_exact _ _ _ _ face_corners_exact (λ corners _. record { before = record { before = record { before = record { before = tt; is = refl }; is = refl }; is = refl }; is = refl }) (λ face known.
    λ i. record { leaf = sym known.before.before.is i; brush = sym known.before.is i; face = sym known.is i; corners = face.corners })))))

module _ (file : TreeFile) where
  pub face_exact : IsExact (face_layout file)
  unfolding face_layout
  face_exact = tested_exact (is_face file) section_form (λ _ at. at) face_parts_layout face_parts_exact

  pub faces_exact : IsExact (faces_layout file)
  unfolding faces_layout
  faces_exact =
      exact_of_parts _ (
      part_exact _ _ _ _ (unsigned_64_exact short) (λ count _.
      last_part_exact _ _ _ _ (each_exact (λ _. face_layout file) (λ _. face_exact) 0 count) (λ faces right.
      record { before = record { before = tt; is = right_each_length (λ _. face_layout file) 0 count faces right }; is = refl }) (λ faces known. refl)))

  -- ---- the bytes do not depend on the file

  pub own_face_bytes : (faces : List FaceRecord) → (faces_layout file).bytes_of faces ≡ faces_bytes faces
  unfolding faces_layout faces_bytes face_layout
  own_face_bytes faces = ap (λ (rest : List ℕ). (unsigned short w64).bytes_of (length faces) ++ rest) (many_bytes (face_layout file) 0 faces)

  -- ---- a whole section

  -- faces that can stand in a section, and its bytes
  pub record IsSectionOfFaces (bytes : List ℕ) (faces : List FaceRecord) : Type 0 where
    pub right : IsTrue ((faces_layout file).right faces)
    pub bytes_are : bytes ≡ faces_bytes faces

  module _ (bytes : List ℕ) (faces : List FaceRecord) where
    pub read_faces_found : (next : ℕ) → AreBytes bytes → read_faces file bytes ≡ got faces next → IsSectionOfFaces bytes faces
    unfolding read_faces
    read_faces_found next are is =
        let all = all_found (faces_layout file) faces_exact trailing bytes faces next are is in
        record { right = all.right; bytes_are = all.bytes ∙ own_face_bytes faces }

    pub read_faces_again : IsSectionOfFaces bytes faces → read_faces file bytes ≡ got faces (length bytes)
    unfolding read_faces
    read_faces_again is = all_again (faces_layout file) faces_exact trailing bytes faces is.right (is.bytes_are ∙ sym (own_face_bytes faces))

    -- a section is read, where what stands at its start is read and ends where it does
    pub read_faces_ends : (next : ℕ) → AreBytes bytes → (faces_layout file).read bytes 0 ≡ got faces next → length bytes ≤ next → read_faces file bytes ≡ got faces (length bytes)
    unfolding read_faces
    read_faces_ends next are is past = read_ends (faces_layout file) faces_exact trailing bytes faces next are is past
