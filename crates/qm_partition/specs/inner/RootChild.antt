use Rattle.std.specs.Prelude.{List, [], ◌∷◌}
use Rattle.qm_partition.specs.declared.node.Node.{Node as NodeRecord}
use Rattle.qm_partition.specs.declared.node.Child.{Child}
use Rattle.qm_partition.specs.declared.node.Child.TheVariants.{Node, Leaf}

-- the child with which the nodes begin
abbrev pub root_child : List NodeRecord → Child
root_child [] = Leaf 0
root_child (here ∷ nodes) = Node 0
