use Rattle.std.specs.Prelude.{◌≡◌, List, ◌++◌}
use Rattle.qm_space.specs.Plane.{Plane}
use Rattle.qm_solids.specs.Solid.{Solid}
use Rattle.qm_partition.specs.declared.visit.Visit.{Visit}
use Rattle.qm_solid_tree.specs.Division.{Divides}
use Rattle.qm_split.specs.declared.fragments.Fragments.{Fragments}
use Rattle.qm_split.specs.declared.fragments.CellHalves.{CellHalves}
use Rattle.qm_split.specs.CellFragments.{cell_of_fragments}
use Rattle.qm_build.specs.inner.Waiting.{IsWalk}

-- Walks of whole cells.

-- the walk of the partition into which solids divide the cell of fragments
abbrev pub IsWalkOf : List Solid → List Plane → Fragments → List Visit → Type 0
IsWalkOf solids book fragments walk = IsWalk (Divides solids book (cell_of_fragments fragments)) walk

-- behind what was written stands the walk of the half in front, and then that of the half behind
pub record AreBothWalked (solids : List Solid) (book : List Plane) (halves : CellHalves) (walk walk' : List Visit) : Type 0 where
  pub front : List Visit
  pub back : List Visit
  pub in_front : IsWalkOf solids book halves.front front
  pub behind : IsWalkOf solids book halves.back back
  pub written : walk' ≡ (walk ++ front) ++ back
