use Rattle.std.specs.Prelude.{ℕ, suc, ◌+◌, List, [], ◌∷◌, ◌++◌, length}
use Rattle.qm_partition.specs.declared.node.Leaf.{Leaf}
use Rattle.qm_partition.specs.Partition.{Partition, leaf, node}

-- the leaves, front first
abbrev pub leaves_of : Partition → List Leaf
leaves_of (leaf found) = found ∷ []
leaves_of (node n front back) = leaves_of front ++ leaves_of back

abbrev pub leaf_count : Partition → ℕ
leaf_count shape = length (leaves_of shape)

abbrev pub node_count : Partition → ℕ
node_count (leaf found) = 0
node_count (node n front back) = suc (node_count front + node_count back)

-- the numbers of the planes of its nodes
abbrev pub node_planes : Partition → List ℕ
node_planes (leaf found) = []
node_planes (node n front back) = n ∷ (node_planes front ++ node_planes back)
