use Rattle.std.specs.Prelude.{◌≡◌, ◌<◌, ℕ, List, Some, slice_get, length, take, count_by}
use Rattle.qm_partition.specs.declared.node.Leaf.{Leaf}
use Rattle.qm_contacts.specs.NumberedLeaves.{is_numbered, numbered_from}

-- for each leaf how many numbered ones come before it
pub record AreBefore (leaves : List Leaf) (before : List ℕ) : Type 0 where
  pub one_each : length before ≡ length leaves
  pub counts : (k : ℕ) → k < length leaves → slice_get before k ≡ Some (count_by is_numbered (take k leaves))

-- the places of the numbered leaves, and how many come before each leaf
pub record AreNumbersOf (leaves : List Leaf) (numbered before : List ℕ) : Type 0 where
  pub numbered_are : numbered ≡ numbered_from leaves 0
  pub before_are : AreBefore leaves before
