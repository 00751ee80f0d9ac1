use Rattle.std.specs.Prelude.{◌≡◌, ◌<◌, ◌^◌, ℕ, length, All}
use Rattle.qm_mapfile.specs.declared.entity.MapFile.{MapFile}
use Rattle.qm_drawn.specs.Solids.{drawn_solids}
use Rattle.qm_solids.specs.Flat.{HasFlat}
use Rattle.qm_space.specs.Reduced.{IsReduced}
use Rattle.qm_partition.specs.Counting.{node_count}
use Rattle.qm_partition.specs.Tree.{Tree}
use Rattle.qm_partition.specs.Ways.{HasPoints}
use Rattle.qm_partition.specs.WellMade.{IsWellMade}
use Rattle.qm_solid_tree.specs.GivesContents.{GivesContents}
use Rattle.qm_statement.specs.TreeOfMap.{IsTreeOfMap}

-- the tree of a map, which can stand in a file, and is built of so many brushes, of which so many are flat
pub record IsTreeOfBrushes (map : MapFile) (tree : Tree) (brushes flat : ℕ) : Type 0 where
  pub is_tree : IsTreeOfMap map tree
  pub gives_contents : GivesContents tree (drawn_solids map)
  pub have_points : HasPoints tree
  pub well_made : IsWellMade tree
  pub reduced : All IsReduced tree.planes
  pub few : node_count tree.shape < 2 ^ 63
  pub as_many : brushes ≡ length (drawn_solids map)
  pub has_flat : HasFlat (drawn_solids map) flat
