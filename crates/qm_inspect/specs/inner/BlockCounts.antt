use Rattle.std.specs.Prelude.{◌≡◌, ◌<◌, ◌*◌, ℕ, List, length, take, slice_get, Some, count_by}
use Rattle.qm_partition.specs.declared.node.Leaf.{Leaf}
use Rattle.qm_contacts.specs.NumberedLeaves.{is_numbered}

-- How many leaves are numbered before a block of 64 leaves, for the first blocks: for the first one at least, before which
-- there is none.

pub record AreBlockCounts (leaves : List Leaf) (counts : List ℕ) : Type 0 where
  pub some : 0 < length counts
  pub each : (k : ℕ) → k < length counts → slice_get counts k ≡ Some (count_by is_numbered (take (64 * k) leaves))
