use Rattle.std.specs.Prelude.{[]}
use Rattle.qm_space.specs.Cuboid.{Cuboid}
use Rattle.qm_mapfile.specs.declared.entity.MapFile.{MapFile}
use Rattle.qm_solids.specs.InBook.{IsBookOf}
use Rattle.qm_brush.specs.MovedBrushes.{AreMovedBrushes}
use Rattle.qm_hull.specs.declared.moved_world.MovedWorld.{MovedWorld}

-- the obstacles of a map's world, moved by a box, with a book that has their planes alone
pub record IsMovedWorld (map : MapFile) (box : Cuboid) (world : MovedWorld) : Type 0 where
  pub moved : AreMovedBrushes box map world.list [] world.book
  pub filled : IsBookOf world.book world.list
