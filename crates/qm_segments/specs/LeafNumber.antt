use Rattle.std.specs.Prelude.{◌≡◌, ℕ, Some, slice_get}
use Rattle.qm_partition.specs.Tree.{Tree}
use Rattle.qm_contacts.specs.NumberedLeaves.{numbered_leaves}

-- n is the number of the leaf at the place k of the tree
abbrev pub IsNumberOf : Tree → ℕ → ℕ → Type 0
IsNumberOf tree n k = slice_get (numbered_leaves tree) n ≡ Some k
