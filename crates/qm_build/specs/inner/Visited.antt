use Rattle.std.specs.Prelude.{◌≡◌, ℕ, List, [], ◌∷◌, ◌++◌}
use Rattle.qm_space.specs.Plane.{Plane}
use Rattle.qm_solids.specs.Solid.{Solid}
use Rattle.qm_partition.specs.declared.visit.Visit.{Visit}
use Rattle.qm_partition.specs.declared.visit.Visit.TheVariants.{Node}
use Rattle.qm_split.specs.declared.fragments.Fragments.{Fragments}
use Rattle.qm_split.specs.declared.fragments.CellHalves.{CellHalves}
use Rattle.qm_build.specs.inner.Tops.{AreSidesOf}
use Rattle.qm_build.specs.inner.WalkedCells.{IsWalkOf}

-- the visit of a cell, while others wait: its whole walk is written, or a node, both of whose sides then wait, the front last
pub data IsVisited (solids : List Solid) (book : List Plane) (fragments : Fragments) (pending : List Fragments) (walk : List Visit) (pending' : List Fragments) (walk' : List Visit) : Type 0 where
  is_walked :
      {whole : List Visit} →
      IsWalkOf solids book fragments whole →
      pending' ≡ pending → walk' ≡ walk ++ whole →
      IsVisited solids book fragments pending walk pending' walk'
  is_node :
      {n : ℕ} {halves : CellHalves} →
      AreSidesOf solids book fragments n halves →
      pending' ≡ (pending ++ halves.back ∷ []) ++ halves.front ∷ [] → walk' ≡ walk ++ Node n ∷ [] →
      IsVisited solids book fragments pending walk pending' walk'
