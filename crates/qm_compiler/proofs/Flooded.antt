-- What is found of the entities of a map fits its tree.
use Rattle.qm_mapfile.specs.declared.entity.MapFile.{MapFile}
use Rattle.qm_partition.specs.Tree.{Tree}
use Rattle.qm_flood.specs.declared.answer.Flood.{Flood}
use Rattle.qm_flood.specs.declared.answer.Flood.TheVariants.{Sealed, NoEntity, Leak}
use Rattle.qm_compiler.specs.inner.Flooded.{FitsTree, IsFloodOfMap}

pub fits_tree : (map : MapFile) (tree : Tree) (found : Flood) → IsFloodOfMap map tree found → FitsTree tree found
fits_tree map tree (Sealed row) is = is.is_flood.1.one_each
fits_tree map tree NoEntity is = tt
fits_tree map tree (Leak entity trail) is = tt
