use Rattle.std.specs.Prelude.{◌≡◌, ◌≤◌, ℕ, List, length}
use Rattle.qm_space.specs.Bounds.{world_extent}
use Rattle.qm_partition.specs.Tree.{Tree}
use Rattle.qm_formats.specs.FileLayout.{file_limit}
use Rattle.qm_formats.specs.TreeFile.{TreeFile}
use Rattle.qm_face_layout.specs.declared.face_record.FaceRecord.{FaceRecord}
use Rattle.qm_face_layout.specs.FacesLayout.{faces_bytes}
use Rattle.qm_face_layout.specs.ValidFace.{AreFacesOfFile}

-- The bytes of faces in a section of a file of a tree.

-- these are exactly the bytes of the faces; and where they are no more than the limit of what is read, which is 1 GiB, the faces can
-- stand in a section of a file of the tree with the bound of the world's cube
pub record AreBytesOfFaces (tree : Tree) (faces : List FaceRecord) (bytes : List ℕ) : Type 0 where
  pub exactly : bytes ≡ faces_bytes faces
  pub are_valid : length bytes ≤ file_limit → (file : TreeFile) → file.tree ≡ tree → file.bound ≡ world_extent → AreFacesOfFile file faces
