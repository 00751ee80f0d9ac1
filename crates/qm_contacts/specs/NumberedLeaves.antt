use Rattle.std.specs.Prelude.{ℕ, ◌+◌, Bool, true, false, not, List, [], ◌∷◌, if◌then◌else◌}
use Rattle.qm_contents.specs.declared.contents.Contents.{Contents}
use Rattle.qm_contents.specs.declared.contents.Contents.TheVariants.{Solid}
use Rattle.qm_partition.specs.declared.node.Leaf.{Leaf}
use Rattle.qm_partition.specs.Tree.{Tree}
use Rattle.qm_partition.specs.Counting.{leaves_of}

abbrev pub is_solid : Contents → Bool
is_solid Solid = true
is_solid _ = false

-- leaves that are not solid are numbered
abbrev pub is_numbered : Leaf → Bool
is_numbered found = not (is_solid found.contents)

-- the places of the numbered ones of some leaves, of which the first has the place k
abbrev pub numbered_from : List Leaf → ℕ → List ℕ
numbered_from [] k = []
numbered_from (found ∷ rest) k = if is_numbered found then k ∷ numbered_from rest (k + 1) else numbered_from rest (k + 1)

-- the numbered leaves of a tree, in the order of the leaves; a leaf's number is its place in this list
abbrev pub numbered_leaves : Tree → List ℕ
numbered_leaves tree = numbered_from (leaves_of tree.shape) 0
