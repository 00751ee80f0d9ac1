use Rattle.std.specs.Prelude.{◌≡◌, ℕ, Bool, true, false, IsTrue, List, Some, slice_get, slice_index_or, if◌then◌else◌}
use Rattle.qm_contents.specs.declared.contents.Contents.TheVariants.{Solid}
use Rattle.qm_partition.specs.declared.node.Leaf.{Leaf}
use Rattle.qm_partition.specs.Partition.{Partition, leaf, node}
use Rattle.qm_partition.specs.Tree.{Tree}
use Rattle.qm_partition.specs.Counting.{leaves_of}
use Rattle.qm_partition.specs.Numbering.{leaves_after}

-- Leaves are marked as lying outside the map: they are solid then. A row has a Bool for each leaf.

abbrev pub filled_leaf : Leaf
filled_leaf = record { contents = Solid; filled = true }

-- a leaf, where the row says whether it is marked
abbrev pub marked_leaf : Bool → Leaf → Leaf
marked_leaf mark found = if mark then filled_leaf else found

-- a partition whose leaves are numbered from k on, with those of the row marked
abbrev pub marked : List Bool → Partition → ℕ → Partition
marked row (leaf found) k = leaf (marked_leaf (slice_index_or row k false) found)
marked row (node plane front back) k = node plane (marked row front k) (marked row back (leaves_after front k))

abbrev pub marked_tree : List Bool → Tree → Tree
marked_tree row tree = record { planes = tree.planes; shape = marked row tree.shape 0 }

-- the leaf of number k is there, and is filled
pub record IsFilledLeaf (tree : Tree) (k : ℕ) : Type 0 where
  pub found : Leaf
  pub leaf_is : slice_get (leaves_of tree.shape) k ≡ Some found
  pub filled : IsTrue found.filled
