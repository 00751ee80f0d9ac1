use Rattle.std.specs.Prelude.{◌<◌, ◌^◌, List, length, All, IsTrue}
use Rattle.qm_space.specs.Plane.{Plane}
use Rattle.qm_space.specs.Reduced.{leads_positive}
use Rattle.qm_partition.specs.declared.node.Node.{Node}
use Rattle.qm_partition.specs.declared.node.Leaf.{Leaf}
use Rattle.qm_partition.specs.WellMade.{IsSolidIfFilled}

-- planes, nodes and leaves that a well made tree can have, whatever the numbers of the nodes and leaves
pub record AreParts (planes : List Plane) (nodes : List Node) (leaves : List Leaf) : Type 0 where
  pub few : length planes < 2 ^ 32
  pub leads : All (λ h. IsTrue (leads_positive h)) planes
  pub named : All (λ here. here.plane < length planes) nodes
  pub solid : All IsSolidIfFilled leaves
