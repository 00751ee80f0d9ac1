use Rattle.std.specs.Prelude.{◌≡◌, ℕ, true, false, List, [], ◌∷◌, ◌++◌, Some, slice_get, Contains}
use Rattle.qm_space.specs.Plane.{Plane}
use Rattle.qm_space.specs.Turned.{turned}
use Rattle.qm_solids.specs.Solid.{Solid}
use Rattle.qm_solids.specs.Cells.{CellHasContents}
use Rattle.qm_solids.specs.Candidates.{IsSamePlane}
use Rattle.qm_solids.specs.Least.{IsNumberedCandidate, IsLeastCandidate}
use Rattle.qm_partition.specs.declared.node.Leaf.{Leaf}
use Rattle.qm_partition.specs.Partition.{Partition, leaf, node}

-- How solids divide a cell by the planes of a book.

-- the book has the plane of each face of the solids
abbrev pub HasPlanesOf : List Plane → List Solid → Type 0
HasPlanesOf book solids =
    (solid : Solid) (face : Plane) → Contains solids solid → Contains solid.outward face →
    (n : ℕ) × (h : Plane) × (slice_get book n ≡ Some h) × IsSamePlane face h

-- no plane of the book is a candidate in the cell
abbrev pub HasNoCandidate : List Solid → List Plane → List Plane → Type 0
HasNoCandidate solids book cell = (n : ℕ) (h : Plane) → IsNumberedCandidate solids book cell n h → ⊥

-- the part of a cell on one side of a plane
abbrev pub front_of : List Plane → Plane → List Plane
front_of cell h = cell ++ turned true h ∷ []

abbrev pub back_of : List Plane → Plane → List Plane
back_of cell h = cell ++ turned false h ∷ []

-- a cell without a candidate is a leaf, with the strongest contents of the solids that contain it; a cell with one is a
-- node on its least candidate, and both sides are divided in the same way
pub data Divides (solids : List Solid) (book : List Plane) : List Plane → Partition → Type 0 where
  undivided : {cell : List Plane} {found : Leaf} →
      HasNoCandidate solids book cell → CellHasContents solids cell found.contents → found.filled ≡ false →
      Divides solids book cell (leaf found)
  divided : {cell : List Plane} {n : ℕ} {h : Plane} {front back : Partition} →
      IsLeastCandidate solids book cell n h →
      Divides solids book (front_of cell h) front → Divides solids book (back_of cell h) back →
      Divides solids book cell (node n front back)
