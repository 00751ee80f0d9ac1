-- The numbers of children lie below the counts of nodes and leaves, and below no less.
use Rattle.std.proofs.Common.{◌<◌, ◌≤◌, ℕ, ◌+◌, ◌++◌, All, arith}
use Rattle.std.proofs.lemmas.List.Elements.{All-nil, All-cons, All-head, All-tail, All-append}
use Rattle.qm_lists.proofs.Elements.{All-last_part}
use Rattle.qm_partition.specs.declared.node.Child.{Child}
use Rattle.qm_partition.specs.declared.node.Child.TheVariants.{Node, Leaf}
use Rattle.qm_partition.specs.declared.node.Node.{Node as NodeRecord}
use Rattle.qm_partition.specs.Partition.{Partition, leaf, node}
use Rattle.qm_partition.specs.Counting.{leaf_count, node_count}
use Rattle.qm_partition.specs.Numbering.{nodes_after, leaves_after, child_of, nodes_of}
use Rattle.qm_partition.proofs.Counts.{leaf_count-node, nodes_after-count, leaves_after-count}

module _ (nodes leaves : ℕ) where
  abbrev pub IsBelow : Child → Type 0
  IsBelow (Node n) = n < nodes
  IsBelow (Leaf k) = k < leaves

  -- both children are below
  pub record HasBelow (here : NodeRecord) : Type 0 where
    pub front : IsBelow here.front
    pub back : IsBelow here.back

  child_below : (shape : Partition) (n k : ℕ) → n + node_count shape ≤ nodes → k + leaf_count shape ≤ leaves → IsBelow (child_of shape n k)
  child_below (leaf found) n k fits fit = omega arith
  child_below (node p front back) n k fits fit = omega arith

  pub children_below : (shape : Partition) (n k : ℕ) → n + node_count shape ≤ nodes → k + leaf_count shape ≤ leaves → All HasBelow (nodes_of shape n k)
  children_below (leaf found) n k fits fit = All-nil HasBelow
  children_below (node p front back) n k fits fit =
      let count = leaf_count-node p front back in
      let n_back = nodes_after front (n + 1) in
      let k_back = leaves_after front k in
      let of_n = nodes_after-count front (n + 1) in
      let of_k = leaves_after-count front k in
      let fits_front : (n + 1) + node_count front ≤ nodes = omega arith in
      let fit_front : k + leaf_count front ≤ leaves = omega arith in
      let fits_back : n_back + node_count back ≤ nodes = omega arith in
      let fit_back : k_back + leaf_count back ≤ leaves = omega arith in
      let top : NodeRecord = record { plane = p; front = child_of front (n + 1) k; back = child_of back n_back k_back } in
      All-cons HasBelow top (nodes_of front (n + 1) k ++ nodes_of back n_back k_back)
      (record { front = child_below front (n + 1) k fits_front fit_front; back = child_below back n_back k_back fits_back fit_back })
      (All-append HasBelow (nodes_of front (n + 1) k) (nodes_of back n_back k_back) (children_below front (n + 1) k fits_front fit_front) (children_below back n_back k_back fits_back fit_back))

  -- where all children are below, there are no more leaves
  pub leaves_below : (shape : Partition) (n k : ℕ) → IsBelow (child_of shape n k) → All HasBelow (nodes_of shape n k) → k + leaf_count shape ≤ leaves
  leaves_below (leaf found) n k own below = omega (arith, own)
  leaves_below (node p front back) n k own below =
      let n_back = nodes_after front (n + 1) in
      let k_back = leaves_after front k in
      let top : NodeRecord = record { plane = p; front = child_of front (n + 1) k; back = child_of back n_back k_back } in
      let in_front = nodes_of front (n + 1) k in
      let behind = nodes_of back n_back k_back in
      let both = All-tail HasBelow top (in_front ++ behind) below in
      let of_back = leaves_below back n_back k_back (All-head HasBelow top (in_front ++ behind) below).back (All-last_part HasBelow in_front behind both) in
      omega (arith, of_back, leaves_after-count front k, leaf_count-node p front back)
