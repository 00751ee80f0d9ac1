use Rattle.std.specs.Prelude.{List, [], ◌∷◌, ◌++◌}
use Rattle.qm_partition.specs.declared.visit.Visit.{Visit}
use Rattle.qm_partition.specs.declared.visit.Visit.TheVariants.{Node, Leaf}
use Rattle.qm_partition.specs.Partition.{Partition, leaf, node}

-- what a walk meets that visits a node, then its front, then its back
abbrev pub visits : Partition → List Visit
visits (leaf found) = Leaf found ∷ []
visits (node n front back) = Node n ∷ (visits front ++ visits back)
