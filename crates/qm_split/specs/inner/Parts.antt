use Rattle.std.specs.Prelude.{◌≡◌, ◌≢◌, ◌⊎◌, ℕ, ◌<◌, ◌≤◌, List, ◌++◌, ◌∷◌, [], length, All, Contains}
use Rattle.qm_space.specs.Point.{Point, IsInCube}
use Rattle.qm_space.specs.Plane.{Plane, IsOn, flipped}
use Rattle.qm_space.specs.Reduced.{IsReduced}
use Rattle.qm_space.specs.Cell.{IsInCell}
use Rattle.qm_space.specs.Cuboid.{Cuboid}
use Rattle.qm_convex.specs.Winding.{Winding, IsInRegion, IsConvex}
use Rattle.qm_convex.specs.Sides.{HasNoneInFront, HasSomeInFront, LiesIn}
use Rattle.qm_solids.specs.Solid.{Solid}
use Rattle.qm_solids.specs.Holding.{IsFull}
use Rattle.qm_solids.specs.Cells.{ContainsCell}
use Rattle.qm_solids.specs.Uniform.{LiesOutside}
use Rattle.qm_split.specs.declared.piece.Piece.{Piece}
use Rattle.qm_split.specs.declared.contender.Contender.{Contender}
use Rattle.qm_split.specs.declared.contender.Part.{Part}
use Rattle.qm_split.specs.declared.contender.Part.TheVariants.{Kept, Containing, Outside}
use Rattle.qm_split.specs.Pieces.{solid_of_contender, ArePiecesInCell, IsHeldWithin, IsContender}

-- What a solid is to a cell.

abbrev pub IsPartIn : List Plane → List Plane → Solid → Part → Type 0
IsPartIn book cell solid (Kept contender) = IsContender book cell contender × (solid_of_contender contender ≡ solid)
IsPartIn book cell solid (Containing contents) = (contents ≡ solid.contents) × ContainsCell solid cell
IsPartIn book cell solid Outside = LiesOutside solid cell

-- how many pieces it has
abbrev pub part_count : Part → ℕ
part_count (Kept contender) = length contender.body.value.pieces.items
part_count (Containing contents) = 0
part_count Outside = 0

-- a winding on a plane, each point of it in the cell
pub record IsWindingInCell (cell : List Plane) (h : Plane) (w : Winding) : Type 0 where
  pub convex : IsConvex w
  pub on : (x : Point) → IsInRegion w x → IsOn h x
  pub in_cube : (x : Point) → IsInRegion w x → IsInCube x
  pub in_cell : (x : Point) → IsInRegion w x → IsInCell cell x

-- what a full solid with these pieces in front of a plane, which lies in the cuboid, is to what a cell has there
abbrev pub IsFoundPart : Solid → Winding → Cuboid → List Piece → Part → Plane → Type 0
IsFoundPart solid w cuboid pieces part g =
    (book cell : List Plane) → IsFull solid → All IsReduced solid.outward → IsWindingInCell cell g w →
    IsHeldWithin cuboid solid (cell ++ g ∷ []) → ArePiecesInCell book (cell ++ g ∷ []) solid pieces → IsPartIn book (cell ++ g ∷ []) solid part

-- no piece of the contender has a point behind the plane
abbrev pub HasNoneBehind : Contender → Plane → Type 0
HasNoneBehind contender g = (p : Piece) → Contains contender.body.value.pieces.items p → HasNoneInFront p.winding.value (flipped g)

-- the plane o, outward of a solid, shows that the winding w or what is in front of the plane g is not inside the solid
abbrev pub KeepsOut : Winding → Plane → Plane → Type 0
KeepsOut w g o = HasSomeInFront w o ⊎ (o ≡ g)

abbrev pub IsNotAhead : Winding → Plane → Plane → Type 0
IsNotAhead w g o = HasNoneInFront w o × (o ≢ g)

pub record HasAhead (outward : List Plane) (w : Winding) (g : Plane) : Type 0 where
  pub face : Plane
  pub has_face : Contains outward face
  pub ahead : KeepsOut w g face

-- some piece lies in the plane
pub record HasPieceIn (pieces : List Piece) (h : Plane) : Type 0 where
  pub piece : Piece
  pub listed : Contains pieces piece
  pub lies_in : LiesIn piece.winding.value h

-- the part has no more pieces than the contender, and fewer where one of these lies in the plane
pub record IsShortened (contender : Contender) (h : Plane) (part : Part) : Type 0 where
  pub no_more : part_count part ≤ length contender.body.value.pieces.items
  pub fewer : HasPieceIn contender.body.value.pieces.items h → part_count part < length contender.body.value.pieces.items
