use Rattle.std.specs.Prelude.{List}
use Rattle.std.specs.List.{AllZip}
use Rattle.qm_space.specs.Plane.{Plane}
use Rattle.qm_space.specs.Cuboid.{Cuboid}
use Rattle.qm_space.specs.Entered.{AreEnteredInBook}
use Rattle.qm_mapfile.specs.declared.entity.Brush.{Brush}
use Rattle.qm_mapfile.specs.declared.entity.MapFile.{MapFile}
use Rattle.qm_solids.specs.Alike.{IsAlike}
use Rattle.qm_solids.specs.InBook.{BookSolid, solids_in}
use Rattle.qm_drawn.specs.Brushes.{world_brushes}
use Rattle.qm_blocking.specs.Blocking.{AreObstacles}
use Rattle.qm_blocking.specs.MovedSolids.{moved_parts, moved_planes}

-- the list has the obstacles of a map's world behind planes moved by a box, and these planes entered the book
pub record AreMovedBrushes (box : Cuboid) (map : MapFile) (list : List BookSolid) (old new : List Plane) : Type 0 where
  pub brushes : List Brush
  pub are : AreObstacles (world_brushes map) brushes
  pub solids : AllZip IsAlike (moved_parts box brushes) (solids_in new list)
  pub entered : AreEnteredInBook old (moved_planes box brushes) new
