use Rattle.std.specs.Prelude.{◌≡◌, ◌<◌, ◌^◌, ◌+◌, ℕ, IsTrue, List, ◌++◌, length, flat_map, All}
use Rattle.std.specs.Int.{w64}
use Rattle.qm_formats.specs.Fields.{unsigned}
use Rattle.qm_formats.specs.FileParts.{FileFaultKind, short, trailing, section_form}
use Rattle.qm_formats.specs.TreeFile.{TreeFile}
use Rattle.qm_face_layout.specs.declared.face_record.FaceRecord.{FaceRecord}
use Rattle.qm_face_layout.specs.FacesLayout.{face_parts_layout, AreFacesBytes}
use Rattle.qm_face_layout.specs.ValidFace.{IsFaceOfFile}

-- Which fault the bytes of a section of faces have: the first in their order, and its place.

-- the bytes of faces one behind the other
abbrev pub bytes_of_records : List FaceRecord → List ℕ
bytes_of_records faces = flat_map face_parts_layout.bytes_of faces

-- behind the number of faces stand the first of them, which can stand there; others are due in the bytes that are left
pub record AreFirstFaces (file : TreeFile) (bytes : List ℕ) (faces : List FaceRecord) (left : List ℕ) : Type 0 where
  pub count : ℕ
  pub count_fits : count < 2 ^ 64
  pub few : length faces < count
  pub are_faces : All (IsFaceOfFile file) faces
  pub bytes_are : bytes ≡ (unsigned short w64).bytes_of count ++ (bytes_of_records faces ++ left)

-- bytes begin with those of a face, each number of which fits its field
pub record BeginWithFace (bytes : List ℕ) (face : FaceRecord) : Type 0 where
  pub fits : IsTrue (face_parts_layout.right face)
  pub rest : List ℕ
  pub bytes_are : bytes ≡ face_parts_layout.bytes_of face ++ rest

-- the number of faces is cut off; or a face that is due is; or one whose bytes are all there cannot stand in the file, at its
-- first byte; or bytes follow the last face
pub data IsFaultOfFaceBytes (file : TreeFile) (bytes : List ℕ) : FileFaultKind → ℕ → Type 0 where
  count_cut_off : length bytes < 8 → IsFaultOfFaceBytes file bytes short (length bytes)
  face_cut_off : (faces : List FaceRecord) (left : List ℕ) → AreFirstFaces file bytes faces left → ((face : FaceRecord) → BeginWithFace left face → ⊥) → IsFaultOfFaceBytes file bytes short (length bytes)
  no_face :
      (faces : List FaceRecord) (left : List ℕ) (face : FaceRecord) (place : ℕ) → AreFirstFaces file bytes faces left → BeginWithFace left face →
      (IsFaceOfFile file face → ⊥) → place + length left ≡ length bytes → IsFaultOfFaceBytes file bytes section_form place
  more_bytes : (front left : List ℕ) (faces : List FaceRecord) → AreFacesBytes file front faces → 0 < length left → bytes ≡ front ++ left → IsFaultOfFaceBytes file bytes trailing (length front)
