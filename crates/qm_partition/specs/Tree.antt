use Rattle.std.specs.Prelude.{◌<◌, List, length, All}
use Rattle.qm_space.specs.Plane.{Plane}
use Rattle.qm_partition.specs.Partition.{Partition}
use Rattle.qm_partition.specs.Counting.{node_planes}

-- a tree: a partition, and the planes that its nodes name by number
pub record Tree : Type 0 where
  pub planes : List Plane
  pub shape : Partition

-- each node names a plane that is there
abbrev pub NamesItsPlanes : Tree → Type 0
NamesItsPlanes tree = All (λ n. n < length tree.planes) (node_planes tree.shape)
