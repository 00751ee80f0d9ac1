use Rattle.std.specs.Prelude.{◌≡◌, ℕ, Bool, true, false, List, [], ◌∷◌, ◌++◌, Some, map, slice_get, Contains}
use Rattle.qm_space.specs.Point.{Point, IsInCube}
use Rattle.qm_space.specs.Plane.{Plane}
use Rattle.qm_space.specs.Turned.{turned}
use Rattle.qm_space.specs.Cell.{IsInCell}
use Rattle.qm_partition.specs.declared.step.Step.{Step}
use Rattle.qm_partition.specs.declared.node.Leaf.{Leaf}
use Rattle.qm_partition.specs.Partition.{Partition, leaf, node}
use Rattle.qm_partition.specs.Tree.{Tree}
use Rattle.qm_partition.specs.Counting.{leaves_of}
use Rattle.qm_space.specs.Book.{plane_at}

-- a way down from the root: its steps, the root's first
abbrev pub Way : Type 0
Way = List Step

-- a way with one step before it
abbrev pub after_step : ℕ → Bool → Way → Way
after_step n to_front way = record { plane = n; front = to_front } ∷ way

-- the ways down to the leaves, in the order of the leaves
abbrev pub ways : Partition → List Way
ways (leaf found) = [] ∷ []
ways (node n front back) = map (after_step n true) (ways front) ++ map (after_step n false) (ways back)

-- the way to the leaf of number k, and that leaf
pub record LeadsTo (shape : Partition) (k : ℕ) (way : Way) (found : Leaf) : Type 0 where
  pub way_is : slice_get (ways shape) k ≡ Some way
  pub leaf_is : slice_get (leaves_of shape) k ≡ Some found

-- the plane of a step, turned to the side to which the step leads
abbrev pub turned_to : List Plane → Step → Plane
turned_to planes step = turned step.front (plane_at planes step.plane)

-- the cell of a way: the planes of its steps, each turned to the side to which the step leads
abbrev pub cell_of_way : List Plane → Way → List Plane
cell_of_way planes way = map (turned_to planes) way

-- the points of the leaf at the end of a way: inside the cube, and strictly on the way's side of each plane above it
pub record IsInLeaf (planes : List Plane) (way : Way) (x : Point) : Type 0 where
  pub in_cube : IsInCube x
  pub in_cell : IsInCell (cell_of_way planes way) x

-- each leaf has a point
abbrev pub HasPoints : Tree → Type 0
HasPoints tree = (way : Way) → Contains (ways tree.shape) way → (x : Point) × IsInLeaf tree.planes way x
