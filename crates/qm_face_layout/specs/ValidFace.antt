use Rattle.std.specs.Prelude.{◌≡◌, ◌<◌, ◌≤◌, ◌^◌, ℕ, ℤ, pos, List, [], ◌∷◌, length, All, IsTrue, Some}
use Rattle.std.specs.Int.{w64}
use Rattle.qm_space.specs.Plane.{Plane}
use Rattle.qm_space.specs.Meet.{meet}
use Rattle.qm_partition.specs.Counting.{leaf_count}
use Rattle.qm_formats.specs.Fields.{fits_signed}
use Rattle.qm_formats.specs.TreeFile.{TreeFile}
use Rattle.qm_face_layout.specs.declared.face_record.FaceRecord.{FaceRecord}
use Rattle.qm_face_layout.specs.PlaneNumbers.{named_plane}

-- The faces that can stand in a section.

-- three numbers of planes that meet in just one point; each is written in 64 bits
pub record IsFaceCorner (planes : List Plane) (bound : ℕ) (corner : List ℤ) : Type 0 where
  pub own : ℤ
  pub before : ℤ
  pub next : ℤ
  pub corner_is : corner ≡ own ∷ before ∷ next ∷ []
  pub fits : All (λ number. IsTrue (fits_signed w64 number)) corner
  pub own_plane : Plane
  pub own_is : named_plane planes bound own ≡ Some own_plane
  pub before_plane : Plane
  pub before_is : named_plane planes bound before ≡ Some before_plane
  pub next_plane : Plane
  pub next_is : named_plane planes bound next ≡ Some next_plane
  pub meet : (meet own_plane before_plane next_plane).w ≡ pos 0 → ⊥

-- a face that can stand in a section of the file
pub record IsFaceOfFile (file : TreeFile) (face : FaceRecord) : Type 0 where
  pub leaf_there : face.leaf < leaf_count file.tree.shape
  pub leaf_fits : face.leaf < 2 ^ 64
  pub brush_fits : face.brush < 2 ^ 64
  pub face_fits : face.face < 2 ^ 32
  pub enough : 3 ≤ length face.corners
  pub few : length face.corners < 2 ^ 32
  pub corners : All (IsFaceCorner file.tree.planes file.bound) face.corners

-- the faces that can stand in a section of the file
pub record AreFacesOfFile (file : TreeFile) (faces : List FaceRecord) : Type 0 where
  pub few : length faces < 2 ^ 64
  pub each : All (IsFaceOfFile file) faces
