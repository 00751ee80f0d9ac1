use Rattle.std.specs.Prelude.{◌≡◌, ◌<◌, ◌^◌, ℕ, List}
use Rattle.std.specs.List.{AllZip}
use Rattle.qm_space.specs.Plane.{Plane}
use Rattle.qm_surface.specs.Surface.{FacePiece}
use Rattle.qm_face_layout.specs.declared.face_record.FaceRecord.{FaceRecord}
use Rattle.qm_face_layout.specs.FaceCorners.{AreNumberedCorners}

-- The records of pieces of a surface.

-- the record of a piece: its leaf, its brush and its face, and its corners by the numbers of their planes
pub record IsRecordOf (planes : List Plane) (bound : ℕ) (piece : FacePiece) (face : FaceRecord) : Type 0 where
  pub leaf_is : face.leaf ≡ piece.leaf
  pub brush_is : face.brush ≡ piece.brush
  pub face_is : face.face ≡ piece.face
  pub corners : AreNumberedCorners planes bound piece.winding piece.into face.corners

-- the records of pieces, one for each, in their order
abbrev pub AreRecordsOf : List Plane → ℕ → List FacePiece → List FaceRecord → Type 0
AreRecordsOf planes bound pieces faces = AllZip (IsRecordOf planes bound) pieces faces

-- the numbers of a record are written in as many bits as there are
pub record HasSmallNumbers (face : FaceRecord) : Type 0 where
  pub leaf_fits : face.leaf < 2 ^ 64
  pub brush_fits : face.brush < 2 ^ 64
  pub face_fits : face.face < 2 ^ 32
