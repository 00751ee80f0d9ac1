use Rattle.std.specs.Prelude.{◌≡◌, ◌<◌, ◌≤◌, ℕ, Bool, false, List, length, slice_index_or}
use Rattle.qm_partition.specs.declared.node.Leaf.{Leaf}
use Rattle.qm_partition.specs.Marked.{filled_leaf, marked_leaf}

-- the first leaves are marked as the row says, and the others are as they were
pub record AreMarkedBelow (count : ℕ) (row : List Bool) (old new : List Leaf) : Type 0 where
  pub same_count : length new ≡ length old
  pub done : (k : ℕ) → k < count → slice_index_or new k filled_leaf ≡ marked_leaf (slice_index_or row k false) (slice_index_or old k filled_leaf)
  pub left : (k : ℕ) → count ≤ k → slice_index_or new k filled_leaf ≡ slice_index_or old k filled_leaf
