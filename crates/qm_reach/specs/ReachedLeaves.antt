use Rattle.std.specs.Prelude.{◌≡◌, ℕ, List, [], ◌∷◌, ◌++◌, Some, slice_get}
use Rattle.qm_space.specs.Plane.{Plane}
use Rattle.qm_space.specs.Cell.{HasPoint}
use Rattle.qm_partition.specs.Tree.{Tree}
use Rattle.qm_partition.specs.Ways.{Way, ways, cell_of_way}
use Rattle.qm_contacts.specs.Meeting.{LeafBelow}

-- A cell reaches a leaf where the leaf has a point of the cube in the cell.

-- the cell reaches the leaf to which a way leads
abbrev pub ReachesWay : List Plane → List Plane → Way → Type 0
ReachesWay planes cell way = HasPoint (cell ++ cell_of_way planes way)

-- the cell reaches the leaf of number k
pub record ReachesLeaf (tree : Tree) (cell : List Plane) (k : ℕ) : Type 0 where
  pub way : Way
  pub way_is : slice_get (ways tree.shape) k ≡ Some way
  pub reached : ReachesWay tree.planes cell way

-- of some leaves, in their order, these are the numbers of those that the cell reaches
pub data AreReached (planes cell : List Plane) : List LeafBelow → List ℕ → Type 0 where
  no_leaves : AreReached planes cell [] []
  reached : {below : LeafBelow} {leaves : List LeafBelow} {found : List ℕ} →
      ReachesWay planes cell below.way → AreReached planes cell leaves found → AreReached planes cell (below ∷ leaves) (below.leaf ∷ found)
  missed : {below : LeafBelow} {leaves : List LeafBelow} {found : List ℕ} →
      (ReachesWay planes cell below.way → ⊥) → AreReached planes cell leaves found → AreReached planes cell (below ∷ leaves) found
