use Rattle.std.specs.Prelude.{ℕ, List, [], ◌∷◌, ◌++◌, map}
use Rattle.qm_space.specs.Point.{Point}
use Rattle.qm_space.specs.Plane.{Plane}
use Rattle.qm_space.specs.Cell.{IsInCell}
use Rattle.qm_space.specs.Cube.{cube_walls}
use Rattle.qm_convex.specs.Winding.{Winding, IsInRegion}
use Rattle.qm_convex.specs.Cut.{IsPartWithin}
use Rattle.qm_partition.specs.Ways.{Way, cell_of_way}
use Rattle.qm_contacts.specs.Meeting.{LeafBelow}
use Rattle.qm_contacts.specs.Touching.{Touching}

-- A polygon is pushed down a tree: what each leaf has of it is a piece.

-- the cell of a way, with the walls of the cube before it
abbrev pub walled_cell : List Plane → Way → List Plane
walled_cell planes way = cube_walls ++ cell_of_way planes way

pub record LeafPiece : Type 0 where
  pub leaf : ℕ
  pub winding : Winding

-- a leaf below has nothing of the polygon
abbrev pub HasNoPiece : List Plane → Winding → Way → Type 0
HasNoPiece planes whole way = (x : Point) → IsInRegion whole x → IsInCell (cell_of_way planes way) x → ⊥

-- the pieces of a polygon in some leaves below, in their order
pub data ArePieces (planes : List Plane) (whole : Winding) : List LeafBelow → List LeafPiece → Type 0 where
  no_pieces : ArePieces planes whole [] []
  piece : {below : LeafBelow} {winding : Winding} {leaves : List LeafBelow} {pieces : List LeafPiece} →
      IsPartWithin winding whole (cell_of_way planes below.way) → ArePieces planes whole leaves pieces →
      ArePieces planes whole (below ∷ leaves) (record { leaf = below.leaf; winding = winding } ∷ pieces)
  nothing : {below : LeafBelow} {leaves : List LeafBelow} {pieces : List LeafPiece} →
      HasNoPiece planes whole below.way → ArePieces planes whole leaves pieces →
      ArePieces planes whole (below ∷ leaves) pieces

-- a piece, behind a node, of a piece in front of it: there both leaves touch
abbrev pub touching_at : ℕ → ℕ → LeafPiece → Touching
touching_at n front found = record { node = n; front = front; back = found.leaf; winding = found.winding }

-- for pieces in front of a node, in order, the pieces that some leaves behind it have of each
pub data ArePiecesOfEach (planes : List Plane) (n : ℕ) (backs : List LeafBelow) : List LeafPiece → List Touching → Type 0 where
  no_rows : ArePiecesOfEach planes n backs [] []
  row : {front : LeafPiece} {pieces fronts : List LeafPiece} {touchings : List Touching} →
      ArePieces planes front.winding backs pieces → ArePiecesOfEach planes n backs fronts touchings →
      ArePiecesOfEach planes n backs (front ∷ fronts) (map (touching_at n front.leaf) pieces ++ touchings)
