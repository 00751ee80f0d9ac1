use Rattle.std.specs.Prelude.{List, []}
use Rattle.qm_space.specs.Plane.{Plane}
use Rattle.qm_space.specs.Cuboid.{Cuboid}
use Rattle.qm_space.specs.Entered.{AreEnteredInBook}
use Rattle.qm_mapfile.specs.declared.entity.Brush.{Brush}
use Rattle.qm_mapfile.specs.declared.entity.MapFile.{MapFile}
use Rattle.qm_drawn.specs.Brushes.{world_brushes}
use Rattle.qm_blocking.specs.Blocking.{AreObstacles}
use Rattle.qm_blocking.specs.MovedSolids.{moved_parts, moved_planes}
use Rattle.qm_partition.specs.Tree.{Tree}
use Rattle.qm_solid_tree.specs.TreeOf.{IsTreeOf}

-- the tree of a map in which a moving box is a point: the moved planes of the world's obstacles enter an empty book in the order
-- of the text, and the tree is the one that the obstacles, moved, define with that book
pub record IsHullTree (map : MapFile) (box : Cuboid) (tree : Tree) : Type 0 where
  pub brushes : List Brush
  pub are_obstacles : AreObstacles (world_brushes map) brushes
  pub book : List Plane
  pub entered : AreEnteredInBook [] (moved_planes box brushes) book
  pub is_tree : IsTreeOf (moved_parts box brushes) book tree
