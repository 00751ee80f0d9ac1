use Rattle.std.specs.Prelude.{◌≡◌, List, length}
use Rattle.qm_mapfile.specs.declared.entity.MapFile.{MapFile}
use Rattle.qm_partition.specs.Counting.{leaf_count}
use Rattle.qm_partition.specs.Tree.{Tree}
use Rattle.qm_contacts.specs.Leak.{Origin}
use Rattle.qm_flood.specs.Found.{IsFloodOf}
use Rattle.qm_flood.specs.declared.answer.Flood.{Flood}
use Rattle.qm_flood.specs.declared.answer.Flood.TheVariants.{Sealed, NoEntity, Leak}
use Rattle.qm_statement.specs.Origins.{AreOriginsOf}

-- What is found of the entities of a map in its tree.

-- this is found of the entities of the map
pub record IsFloodOfMap (map : MapFile) (tree : Tree) (found : Flood) : Type 0 where
  pub origins : List Origin
  pub are_origins : AreOriginsOf map origins
  pub is_flood : IsFloodOf tree origins found

-- the row of what is to be filled, where there is one, has a place for each leaf of the tree
abbrev pub FitsTree : Tree → Flood → Type 0
FitsTree tree (Sealed row) = length row ≡ leaf_count tree.shape
FitsTree tree NoEntity = Unit {0}
FitsTree tree (Leak entity trail) = Unit {0}
