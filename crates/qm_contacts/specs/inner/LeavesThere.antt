use Rattle.std.specs.Prelude.{◌<◌}
use Rattle.qm_partition.specs.Tree.{Tree}
use Rattle.qm_partition.specs.Counting.{leaf_count}
use Rattle.qm_contacts.specs.Touching.{Touching}

-- the leaves of a pair are there
pub record HasItsLeaves (tree : Tree) (found : Touching) : Type 0 where
  pub front : found.front < leaf_count tree.shape
  pub back : found.back < leaf_count tree.shape
