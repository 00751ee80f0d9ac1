use Rattle.std.specs.Prelude.{◌≡◌, ℕ, ◌<◌, false, List}
use Rattle.qm_space.specs.Plane.{Plane}
use Rattle.qm_solids.specs.Solid.{Solid}
use Rattle.qm_solids.specs.Cells.{CellHasContents}
use Rattle.qm_solids.specs.Least.{IsLeastCandidate}
use Rattle.qm_solid_tree.specs.Division.{HasNoCandidate, front_of, back_of}
use Rattle.qm_split.specs.declared.fragments.Fragments.{Fragments}
use Rattle.qm_split.specs.declared.fragments.CellHalves.{CellHalves}
use Rattle.qm_split.specs.CellFragments.{AreFragmentsOf, cell_of_fragments, piece_count}
use Rattle.qm_build.specs.declared.top.Top.{Top}
use Rattle.qm_build.specs.declared.top.Top.TheVariants.{Leaf, Node}

-- What a walk meets first in a cell.

-- both sides of the cell of fragments, on its least candidate, which is the plane of a number; each has fewer pieces
pub record AreSidesOf (solids : List Solid) (book : List Plane) (fragments : Fragments) (n : ℕ) (halves : CellHalves) : Type 0 where
  pub plane : Plane
  pub least : IsLeastCandidate solids book (cell_of_fragments fragments) n plane
  pub in_front : AreFragmentsOf solids book (front_of (cell_of_fragments fragments) plane) halves.front
  pub fewer : piece_count halves.front < piece_count fragments
  pub behind : AreFragmentsOf solids book (back_of (cell_of_fragments fragments) plane) halves.back
  pub less : piece_count halves.back < piece_count fragments

-- a leaf with what fills the cell, or a node and its sides
abbrev pub IsTopOf : List Solid → List Plane → Fragments → Top → Type 0
IsTopOf solids book fragments (Leaf found) =
    HasNoCandidate solids book (cell_of_fragments fragments) × CellHasContents solids (cell_of_fragments fragments) found.contents × (found.filled ≡ false)
IsTopOf solids book fragments (Node n halves) = AreSidesOf solids book fragments n halves
