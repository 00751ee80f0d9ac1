use Rattle.std.specs.Prelude.{[]}
use Rattle.qm_space.specs.Entered.{AreEnteredInBook}
use Rattle.qm_mapfile.specs.declared.entity.MapFile.{MapFile}
use Rattle.qm_drawn.specs.Planes.{drawn_planes}
use Rattle.qm_drawn.specs.Solids.{drawn_solids}
use Rattle.qm_partition.specs.Tree.{Tree}
use Rattle.qm_partition.specs.Ways.{HasPoints}
use Rattle.qm_solid_tree.specs.GivesContents.{GivesContentsOrIsFilled}

-- A tree by which the surface of a map can be cut.

-- its planes are those that the brushes of the map enter in an empty book; it leads each point to the contents that these define
-- there, or to a filled leaf; and each of its leaves has a point
pub record HasSurfaceOf (map : MapFile) (tree : Tree) : Type 0 where
  pub entered : AreEnteredInBook [] (drawn_planes map) tree.planes
  pub gives_contents : GivesContentsOrIsFilled tree (drawn_solids map)
  pub have_points : HasPoints tree
