use Rattle.std.specs.Prelude.{◌≡◌, ℕ, Some, slice_get, Contains}
use Rattle.qm_space.specs.Point.{Point}
use Rattle.qm_space.specs.Plane.{Plane}
use Rattle.qm_space.specs.Cell.{IsInCell}
use Rattle.qm_space.specs.Cube.{cube_walls, IsOnCubeFace}
use Rattle.qm_partition.specs.Tree.{Tree}
use Rattle.qm_partition.specs.Ways.{Way, ways, cell_of_way}

-- a leaf touches the outside: a point strictly inside a face of the cube is strictly on its side of all planes above it
pub record TouchesOutside (tree : Tree) (k : ℕ) : Type 0 where
  pub way : Way
  pub way_is : slice_get (ways tree.shape) k ≡ Some way
  pub wall : Plane
  pub is_wall : Contains cube_walls wall
  pub point : Point
  pub on_face : IsOnCubeFace wall point
  pub in_cell : IsInCell (cell_of_way tree.planes way) point
