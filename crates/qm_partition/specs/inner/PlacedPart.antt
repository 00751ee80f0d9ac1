use Rattle.std.specs.Prelude.{◌≡◌, ◌≤◌, ℕ, suc, ◌+◌, ◌-◌, Some, slice_get}
use Rattle.qm_partition.specs.declared.node.Child.{Child}
use Rattle.qm_partition.specs.declared.node.Child.TheVariants.{Node, Leaf}
use Rattle.qm_partition.specs.declared.node.Node.{Node as NodeRecord}
use Rattle.qm_partition.specs.Partition.{Partition}
use Rattle.qm_partition.specs.Counting.{leaf_count, node_count}
use Rattle.qm_partition.specs.Numbering.{nodes_of}

-- the nodes of the part, numbered from n on, stand at their numbers; its leaves, numbered from k on, are some of the whole
pub record IsPart (whole part : Partition) (n k : ℕ) : Type 0 where
  pub nodes_at : (i : ℕ) (m : NodeRecord) → slice_get (nodes_of part n k) i ≡ Some m → slice_get (nodes_of whole 0 0) (n + i) ≡ Some m
  pub nodes_in : n + node_count part ≤ node_count whole
  pub leaves_in : k + leaf_count part ≤ leaf_count whole

-- the number of a node, by which a child comes behind all that come before it; leaves come last
abbrev pub nodes_from : ℕ → Child → ℕ
nodes_from count (Leaf k) = 0
nodes_from count (Node n) = suc count - n
