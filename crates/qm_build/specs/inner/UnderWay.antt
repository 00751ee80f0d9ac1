use Rattle.std.specs.Prelude.{ℕ, ◌+◌, ◌^◌, List, [], ◌∷◌, map, reverse}
use Rattle.std.specs.List.{AllByRecursion}
use Rattle.qm_space.specs.Plane.{Plane}
use Rattle.qm_solids.specs.Solid.{Solid}
use Rattle.qm_partition.specs.declared.visit.Visit.{Visit}
use Rattle.qm_solid_tree.specs.Division.{Divides}
use Rattle.qm_split.specs.declared.fragments.Fragments.{Fragments}
use Rattle.qm_split.specs.CellFragments.{AreFragmentsOf, cell_of_fragments, piece_count}
use Rattle.qm_build.specs.inner.Waiting.{Completes}

-- fragments of a cell as they wait: those of the cell that they name
abbrev pub AreFragments : List Solid → List Plane → Fragments → Type 0
AreFragments solids book fragments = AreFragmentsOf solids book (cell_of_fragments fragments) fragments

-- what is left to do: a cell with a piece more than another has more to do than both sides of that one
abbrev pub weight : List Fragments → ℕ
weight [] = 0
weight (fragments ∷ others) = 3 ^ piece_count fragments + weight others

-- the walk of a division of a cell, while cells wait, the next one last
pub record IsUnderWay (solids : List Solid) (book root : List Plane) (pending : List Fragments) (walk : List Visit) : Type 0 where
  pub are : AllByRecursion (AreFragments solids book) (reverse pending)
  pub completes : Completes (Divides solids book) root (map cell_of_fragments (reverse pending)) walk
