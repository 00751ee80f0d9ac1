use Rattle.std.specs.Prelude.{◌≡◌, List}
use Rattle.qm_mapfile.specs.declared.entity.MapFile.{MapFile}
use Rattle.qm_drawn.specs.Solids.{drawn_solids}
use Rattle.qm_partition.specs.Tree.{Tree}
use Rattle.qm_partition.specs.Ways.{HasPoints}
use Rattle.qm_solid_tree.specs.GivesContents.{GivesContents}
use Rattle.qm_contacts.specs.Leak.{Origin}
use Rattle.qm_statement.specs.Origins.{AreOriginsOf}
use Rattle.qm_statement.specs.TreeOfMap.{IsTreeOfMap}

-- what a map gives before the outside is looked for: its tree, and where its entities stand, of which there is one each.
-- The tree gives each point the contents that the map's drawn solids define there, and each of its leaves has a point.
pub record IsBuilt (map : MapFile) (tree : Tree) (origins : List Origin) : Type 0 where
  pub is_tree : IsTreeOfMap map tree
  pub only_tree : (other : Tree) → IsTreeOfMap map other → other ≡ tree
  pub gives_contents : GivesContents tree (drawn_solids map)
  pub have_points : HasPoints tree
  pub are_origins : AreOriginsOf map origins
  pub only_origins : (others : List Origin) → AreOriginsOf map others → others ≡ origins
