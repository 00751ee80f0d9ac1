use Rattle.std.specs.Prelude.{◌≡◌, ◌≢◌, ◌↔◌, ◌⊎◌, ℕ, List, Contains}
use Rattle.qm_space.specs.Point.{Point, IsInCube}
use Rattle.qm_space.specs.Plane.{Plane, IsOn, IsBehind}
use Rattle.qm_space.specs.Book.{plane_at}
use Rattle.qm_space.specs.Cuboid.{Cuboid, IsInCuboid}
use Rattle.qm_contents.specs.declared.contents.Contents.{Contents}
use Rattle.qm_convex.specs.Winding.{Winding, IsInRegion, IsConvex}
use Rattle.qm_solids.specs.declared.face.FaceRef.{FaceRef}
use Rattle.qm_solids.specs.Outward.{outward_of, outward_planes}
use Rattle.qm_solids.specs.Solid.{Solid}
use Rattle.qm_solids.specs.Holding.{IsInFrontOfNone}
use Rattle.qm_split.specs.declared.piece.Piece.{Piece}

-- Faces by the numbers of their planes in a book.

-- the solid behind faces
abbrev pub solid_behind : List Plane → List FaceRef → Contents → Solid
solid_behind book faces contents = record { contents = contents; outward = outward_planes book faces }

-- strictly behind those faces whose planes have other numbers
abbrev pub IsBehindOthers : List Plane → ℕ → List FaceRef → Point → Type 0
IsBehindOthers book number faces x = (face : FaceRef) → Contains faces face → face.plane ≢ number → IsBehind (outward_of book face) x

-- a point of the cube on the plane of a number, strictly behind the faces of other numbers
pub record IsFacePoint (book : List Plane) (number : ℕ) (faces : List FaceRef) (x : Point) : Type 0 where
  pub in_cube : IsInCube x
  pub on : IsOn (plane_at book number) x
  pub behind : IsBehindOthers book number faces x

-- the winding has these points
pub record IsFacePiece (book : List Plane) (number : ℕ) (faces : List FaceRef) (w : Winding) : Type 0 where
  pub convex : IsConvex w
  pub plane : w.plane ≡ plane_at book number
  pub points : (x : Point) → IsInRegion w x ↔ IsFacePoint book number faces x

-- the cuboid has all points of the cube in front of none of the planes
abbrev pub HasAllBehind : Cuboid → List Plane → Type 0
HasAllBehind cuboid outward = (x : Point) → IsInCube x → IsInFrontOfNone outward x → IsInCuboid cuboid x

-- of what a cuboid has of the cube, another one has all that is in front of none of the planes
abbrev pub LeavesAllBehind : Cuboid → List Plane → Cuboid → Type 0
LeavesAllBehind cuboid outward left = (x : Point) → IsInCube x → IsInCuboid cuboid x → IsInFrontOfNone outward x → IsInCuboid left x

-- no point is one of the face
abbrev pub HasNoFacePoint : List Plane → ℕ → List FaceRef → Type 0
HasNoFacePoint book number faces = (x : Point) → IsFacePoint book number faces x → ⊥

-- the piece is what the cube has of a face
pub record IsPieceOfFace (book : List Plane) (faces : List FaceRef) (face : FaceRef) (piece : Piece) : Type 0 where
  pub number : piece.number ≡ face.plane
  pub winding : IsFacePiece book face.plane faces piece.winding.value

pub record ComesOfFace (book : List Plane) (faces done : List FaceRef) (piece : Piece) : Type 0 where
  pub face : FaceRef
  pub listed : Contains done face
  pub is : IsPieceOfFace book faces face piece

pub record HasPieceOfFace (book : List Plane) (faces : List FaceRef) (pieces : List Piece) (face : FaceRef) : Type 0 where
  pub piece : Piece
  pub listed : Contains pieces piece
  pub is : IsPieceOfFace book faces face piece

-- the pieces are what the cube has of those faces that are done, of all faces of a solid
pub record HasFacePieces (book : List Plane) (faces done : List FaceRef) (pieces : List Piece) : Type 0 where
  pub each : (piece : Piece) → Contains pieces piece → ComesOfFace book faces done piece
  pub all : (face : FaceRef) → Contains done face → HasNoFacePoint book face.plane faces ⊎ HasPieceOfFace book faces pieces face
