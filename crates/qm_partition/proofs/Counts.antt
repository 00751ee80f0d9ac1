-- How many nodes and leaves a partition has.
use Rattle.std.proofs.Common.{◌≡◌, ℕ, ◌+◌, List, length, refl, ap, ◌∙◌, arith}
use Rattle.std.proofs.lemmas.List.{length-append}
use Rattle.qm_partition.specs.Partition.{Partition, leaf, node}
use Rattle.qm_partition.specs.Counting.{leaves_of, leaf_count, node_count}
use Rattle.qm_partition.specs.declared.node.Node.{Node}
use Rattle.qm_partition.specs.declared.node.Leaf.{Leaf}
use Rattle.qm_partition.specs.Numbering.{nodes_after, leaves_after, nodes_of, AreNumbered}

pub leaf_count-node : (n : ℕ) (front back : Partition) → leaf_count (node n front back) ≡ leaf_count front + leaf_count back
leaf_count-node n front back = length-append (leaves_of front) (leaves_of back)

-- one leaf more than nodes
pub one_leaf_more : (shape : Partition) → leaf_count shape ≡ node_count shape + 1
one_leaf_more (leaf found) = refl
one_leaf_more (node n front back) = omega (arith, leaf_count-node n front back, one_leaf_more front, one_leaf_more back)

-- the counters count
pub nodes_after-count : (shape : Partition) (n : ℕ) → nodes_after shape n ≡ n + node_count shape
nodes_after-count (leaf found) n = omega arith
nodes_after-count (node plane front back) n =
    let after = nodes_after front (n + 1) in
    omega (arith, nodes_after-count front (n + 1), nodes_after-count back after)

pub leaves_after-count : (shape : Partition) (k : ℕ) → leaves_after shape k ≡ k + leaf_count shape
leaves_after-count (leaf found) k = refl
leaves_after-count (node plane front back) k =
    let after = leaves_after front k in
    omega (arith, leaves_after-count front k, leaves_after-count back after, leaf_count-node plane front back)

pub length-nodes_of : (shape : Partition) (n k : ℕ) → length (nodes_of shape n k) ≡ node_count shape
length-nodes_of (leaf found) n k = refl
length-nodes_of (node plane front back) n k =
    let n_back = nodes_after front (n + 1) in
    let k_back = leaves_after front k in
    omega (arith, length-append (nodes_of front (n + 1) k) (nodes_of back n_back k_back), length-nodes_of front (n + 1) k, length-nodes_of back n_back k_back)

-- as many nodes are numbered as there are
pub nodes-count : (shape : Partition) (nodes : List Node) (leaves : List Leaf) → AreNumbered shape nodes leaves → length nodes ≡ node_count shape
nodes-count shape nodes leaves are = ap length are.nodes_are ∙ length-nodes_of shape 0 0
