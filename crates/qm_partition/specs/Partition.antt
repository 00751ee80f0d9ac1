use Rattle.std.specs.Prelude.{ℕ}
use Rattle.qm_partition.specs.declared.node.Leaf.{Leaf}

-- The shape of a binary space partition: a leaf, or the number of a plane with what is in front of it and what is
-- behind it.
pub data Partition : Type 0 where
  leaf : Leaf → Partition
  node : ℕ → Partition → Partition → Partition
