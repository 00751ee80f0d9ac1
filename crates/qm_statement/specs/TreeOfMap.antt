use Rattle.std.specs.Prelude.{List, []}
use Rattle.qm_space.specs.Plane.{Plane}
use Rattle.qm_mapfile.specs.declared.entity.MapFile.{MapFile}
use Rattle.qm_space.specs.Entered.{AreEnteredInBook}
use Rattle.qm_drawn.specs.Planes.{drawn_planes}
use Rattle.qm_drawn.specs.Solids.{drawn_solids}
use Rattle.qm_partition.specs.Tree.{Tree}
use Rattle.qm_solid_tree.specs.TreeOf.{IsTreeOf}

-- the tree of a map: the planes of the faces of its drawn brushes enter an empty book in the order of the text, and the
-- tree is the one that the map's drawn solids define with that book
pub record IsTreeOfMap (map : MapFile) (tree : Tree) : Type 0 where
  pub book : List Plane
  pub entered : AreEnteredInBook [] (drawn_planes map) book
  pub is_tree : IsTreeOf (drawn_solids map) book tree
