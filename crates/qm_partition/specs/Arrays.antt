use Rattle.std.specs.Prelude.{ℕ, false, List, [], ◌∷◌, slice_index_or}
use Rattle.qm_contents.specs.declared.contents.Contents.TheVariants.{Empty}
use Rattle.qm_space.specs.Plane.{Plane}
use Rattle.qm_partition.specs.declared.node.Node.{Node as NodeRecord}
use Rattle.qm_partition.specs.declared.node.Leaf.{Leaf as LeafRecord}
use Rattle.qm_partition.specs.declared.node.Child.{Child}
use Rattle.qm_partition.specs.declared.node.Child.TheVariants.{Node, Leaf}
use Rattle.qm_partition.specs.Partition.{Partition, leaf, node}
use Rattle.qm_partition.specs.Tree.{Tree}

-- The partition of numbered nodes and leaves. The nodes are gone through from the last one to the first: a child that is
-- a node is the first partition that has no place yet.

-- the leaf of a number; a number that is not there names an empty leaf
abbrev pub listed_leaf : List LeafRecord → ℕ → Partition
listed_leaf leaves k = leaf (slice_index_or leaves k (record { contents = Empty; filled = false }))

-- the partition of a child, where these have no place yet
abbrev pub placed : List LeafRecord → Child → List Partition → Partition
placed leaves (Leaf k) waiting = listed_leaf leaves k
placed leaves (Node n) [] = listed_leaf leaves 0
placed leaves (Node n) (first ∷ waiting) = first

-- those that have no place afterwards
abbrev pub still_waiting : Child → List Partition → List Partition
still_waiting (Leaf k) waiting = waiting
still_waiting (Node n) [] = []
still_waiting (Node n) (first ∷ waiting) = waiting

-- one node more, in front of the nodes behind it
abbrev pub with_node : List LeafRecord → NodeRecord → List Partition → List Partition
with_node leaves here waiting =
    let behind_front = still_waiting here.front waiting in
    node here.plane (placed leaves here.front waiting) (placed leaves here.back behind_front) ∷ still_waiting here.back behind_front

-- the partitions of nodes that no node of these has as a child
abbrev pub partitions_of : List LeafRecord → List NodeRecord → List Partition
partitions_of leaves [] = []
partitions_of leaves (here ∷ nodes) = with_node leaves here (partitions_of leaves nodes)

-- the partition of numbered nodes and leaves: the first of these, or the one leaf
abbrev pub partition_of : List NodeRecord → List LeafRecord → Partition
partition_of nodes leaves = placed leaves (Node 0) (partitions_of leaves nodes)

-- the tree of planes, numbered nodes and numbered leaves
abbrev pub tree_of : List Plane → List NodeRecord → List LeafRecord → Tree
tree_of planes nodes leaves = record { planes = planes; shape = partition_of nodes leaves }
