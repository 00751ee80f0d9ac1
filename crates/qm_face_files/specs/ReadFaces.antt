use Rattle.std.specs.Prelude.{◌≡◌, ◌≤◌, List, ℕ, length, Some}
use Rattle.qm_formats.specs.TreeFile.{TreeFile}
use Rattle.qm_formats.specs.FileLayout.{file_limit}
use Rattle.qm_face_layout.specs.declared.face_record.FaceRecord.{FaceRecord}
use Rattle.qm_answers.specs.declared.decoded_section.DecodedSection.TheVariants.{Known}
use Rattle.qm_answers.specs.DecodedSections.{section_bytes, kind_of_faces, decoded_faces}

-- The faces that are read in a file.

-- the section of faces has these bytes, no more than the limit of what is read
pub record HasFaceBytes (file : TreeFile) (bytes : List ℕ) : Type 0 where
  pub there : section_bytes file.sections kind_of_faces ≡ Some bytes
  pub fits : length bytes ≤ file_limit

-- these faces are read in such a section
pub record AreReadFaces (file : TreeFile) (faces : List FaceRecord) : Type 0 where
  pub bytes : List ℕ
  pub has_bytes : HasFaceBytes file bytes
  pub are_decoded : decoded_faces file ≡ Known faces

-- there is a section of faces; and if it has no more bytes than the limit of what is read, faces are read in it
pub record HasFaces (file : TreeFile) : Type 0 where
  pub bytes : List ℕ
  pub there : section_bytes file.sections kind_of_faces ≡ Some bytes
  pub read : length bytes ≤ file_limit → (faces : List FaceRecord) × AreReadFaces file faces
