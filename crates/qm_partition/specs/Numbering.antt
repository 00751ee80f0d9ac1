use Rattle.std.specs.Prelude.{◌≡◌, ℕ, ◌+◌, List, [], ◌∷◌, ◌++◌}
use Rattle.qm_partition.specs.declared.node.Node.{Node as NodeRecord}
use Rattle.qm_partition.specs.declared.node.Leaf.{Leaf as LeafRecord}
use Rattle.qm_partition.specs.declared.node.Child.{Child}
use Rattle.qm_partition.specs.declared.node.Child.TheVariants.{Node, Leaf}
use Rattle.qm_partition.specs.Partition.{Partition, leaf, node}
use Rattle.qm_partition.specs.Counting.{leaves_of}

-- Nodes and leaves are numbered in the order in which a walk meets them that visits a node, then its front, then its
-- back. Two counters say what number comes next.

-- the next number of a node after those of a partition, of which the first has the number n
abbrev pub nodes_after : Partition → ℕ → ℕ
nodes_after (leaf found) n = n
nodes_after (node plane front back) n = nodes_after back (nodes_after front (n + 1))

-- the next number of a leaf after those of a partition, of which the first has the number k
abbrev pub leaves_after : Partition → ℕ → ℕ
leaves_after (leaf found) k = k + 1
leaves_after (node plane front back) k = leaves_after back (leaves_after front k)

-- a partition as a child, where its nodes are numbered from n on and its leaves from k on
abbrev pub child_of : Partition → ℕ → ℕ → Child
child_of (leaf found) n k = Leaf k
child_of (node plane front back) n k = Node n

-- the nodes of a partition in order, numbered from n on, where its leaves are numbered from k on
abbrev pub nodes_of : Partition → ℕ → ℕ → List NodeRecord
nodes_of (leaf found) n k = []
nodes_of (node plane front back) n k =
    let n_back = nodes_after front (n + 1) in
    let k_back = leaves_after front k in
    record { plane = plane; front = child_of front (n + 1) k; back = child_of back n_back k_back }
    ∷ (nodes_of front (n + 1) k ++ nodes_of back n_back k_back)

-- the nodes and leaves of a partition, both numbered from 0 on
pub record AreNumbered (shape : Partition) (nodes : List NodeRecord) (leaves : List LeafRecord) : Type 0 where
  pub nodes_are : nodes ≡ nodes_of shape 0 0
  pub leaves_are : leaves ≡ leaves_of shape
