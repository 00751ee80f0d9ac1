use Rattle.std.specs.Prelude.{◌≡◌, ◌↔◌, List, All, Contains, Some, None, slice_get}
use Rattle.qm_space.specs.Point.{Point, IsInCube}
use Rattle.qm_space.specs.Plane.{Plane}
use Rattle.qm_space.specs.Reduced.{IsReduced}
use Rattle.qm_space.specs.Cell.{IsInCell}
use Rattle.qm_space.specs.Cuboid.{Cuboid, IsInCuboid}
use Rattle.qm_convex.specs.Winding.{IsInRegion, IsConvex}
use Rattle.qm_solids.specs.Solid.{Solid}
use Rattle.qm_solids.specs.Holding.{IsFull, Holds}
use Rattle.qm_solids.specs.Candidates.{IsSamePlane, IsOnFace}
use Rattle.qm_split.specs.declared.piece.Piece.{Piece}
use Rattle.qm_split.specs.declared.contender.Contender.{Contender}
use Rattle.qm_split.specs.inner.Ranked.{IsLesser}

-- What is kept of one solid in a cell.

-- the solid that a contender stands for
abbrev pub solid_of_contender : Contender → Solid
solid_of_contender contender = record { contents = contender.contents; outward = contender.body.value.outward.value.items }

-- the piece is what the cell has of a face of the solid, on the plane of a number in the book
pub record IsPieceInCell (book cell : List Plane) (solid : Solid) (piece : Piece) : Type 0 where
  pub numbered : slice_get book piece.number ≡ Some piece.winding.value.plane
  pub face : Plane
  pub has_face : Contains solid.outward face
  pub lies_on : IsSamePlane face piece.winding.value.plane
  pub convex : IsConvex piece.winding.value
  pub reduced : IsReduced piece.winding.value.plane
  pub points : (x : Point) → IsInRegion piece.winding.value x ↔ IsOnFace solid cell piece.winding.value.plane x

-- the piece has a point on a face
pub record HasPointOfFace (face : Plane) (x : Point) (pieces : List Piece) : Type 0 where
  pub piece : Piece
  pub listed : Contains pieces piece
  pub lies_on : IsSamePlane face piece.winding.value.plane
  pub has : IsInRegion piece.winding.value x

-- the pieces are what the cell has of the solid's faces
pub record ArePiecesInCell (book cell : List Plane) (solid : Solid) (pieces : List Piece) : Type 0 where
  pub sound : All (IsPieceInCell book cell solid) pieces
  pub complete : (face : Plane) (x : Point) → Contains solid.outward face → IsOnFace solid cell face x → HasPointOfFace face x pieces

-- what the solid holds of the cell lies in the cuboid
abbrev pub IsHeldWithin : Cuboid → Solid → List Plane → Type 0
IsHeldWithin cuboid solid cell = (x : Point) → IsInCube x → IsInCell cell x → Holds solid x → IsInCuboid cuboid x

-- a full solid with the pieces that the cell has of its faces, at least one, where the first of them comes among
-- candidates, and a cuboid in which the solid lies in the cell
pub record IsContender (book cell : List Plane) (contender : Contender) : Type 0 where
  pub full : IsFull (solid_of_contender contender)
  pub reduced : All IsReduced contender.body.value.outward.value.items
  pub first : IsLesser None contender.body.value.pieces.items (Some contender.least)
  pub pieces : ArePiecesInCell book cell (solid_of_contender contender) contender.body.value.pieces.items
  pub within : IsHeldWithin contender.body.value.cuboid (solid_of_contender contender) cell
