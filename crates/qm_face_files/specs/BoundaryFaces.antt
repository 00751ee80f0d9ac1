use Rattle.std.specs.Prelude.{◌≡◌, ℕ, Bool, not, List, Some, slice_get}
use Rattle.qm_space.specs.Bounds.{world_extent}
use Rattle.qm_space.specs.Point.{Point}
use Rattle.qm_mapfile.specs.declared.entity.MapFile.{MapFile}
use Rattle.qm_solids.specs.InBook.{BookSolid}
use Rattle.qm_partition.specs.Tree.{Tree}
use Rattle.qm_contacts.specs.Meeting.{Meeting}
use Rattle.qm_surface.specs.Boundary.{leaf_on, IsBoundaryPoint}
use Rattle.qm_surface.specs.Owner.{IsOwnerAt}
use Rattle.qm_surface.specs.Surface.{FacePiece}
use Rattle.qm_surface.specs.Covered.{IsInPiece, IsOnlyPlace}
use Rattle.qm_face_layout.specs.declared.face_record.FaceRecord.{FaceRecord}
use Rattle.qm_face_sections.specs.FaceRecords.{IsRecordOf, AreRecordsOf}
use Rattle.qm_face_sections.specs.MapFaces.{AreBrushesInBook}

-- The faces that boundary points have.

-- just one of the pieces has the boundary point, and the face at its place is its record: it names the leaf that is not solid
-- there, and the brush and the face to which the point belongs
pub record HasOwnFace (tree : Tree) (solids : List BookSolid) (pieces : List FacePiece) (faces : List FaceRecord) (meeting : Meeting) (side : Bool) (x : Point) : Type 0 where
  pub place : ℕ
  pub piece : FacePiece
  pub alone : IsOnlyPlace (IsInPiece x) pieces place piece
  pub face : FaceRecord
  pub there : slice_get faces place ≡ Some face
  pub is_record : IsRecordOf tree.planes world_extent piece face
  pub leaf : face.leaf ≡ leaf_on (not side) meeting.front.leaf meeting.back.leaf
  pub owner : IsOwnerAt tree.planes solids meeting.plane side x (record { brush = face.brush; face = face.face })

-- faces are the records of pieces of which each boundary point of the tree has just one
pub record AreBoundaryFaces (map : MapFile) (tree : Tree) (faces : List FaceRecord) : Type 0 where
  pub solids : List BookSolid
  pub are_brushes : AreBrushesInBook map tree.planes solids
  pub pieces : List FacePiece
  pub are_records : AreRecordsOf tree.planes world_extent pieces faces
  pub each : (meeting : Meeting) (side : Bool) (x : Point) → IsBoundaryPoint tree meeting side x → HasOwnFace tree solids pieces faces meeting side x
