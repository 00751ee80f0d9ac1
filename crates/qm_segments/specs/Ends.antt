use Rattle.std.specs.Prelude.{◌≡◌, ◌≢◌, ℕ, Bool, false, List, [], slice_index_or}
use Rattle.qm_lists.specs.WorkList.{IsIn}
use Rattle.qm_space.specs.Point.{Point}
use Rattle.qm_contents.specs.declared.contents.Contents.{Contents}
use Rattle.qm_contents.specs.declared.contents.Contents.TheVariants.{Solid}
use Rattle.qm_partition.specs.Tree.{Tree}
use Rattle.qm_partition.specs.LeafOfPoint.{leaf_at, leaf_record_at}
use Rattle.qm_segments.specs.Segment.{Segment}
use Rattle.qm_segments.specs.Generic.{IsGeneric}
use Rattle.qm_segments.specs.Clear.{IsClear}
use Rattle.qm_segments.specs.LeafNumber.{IsNumberOf}

-- What rows of leaves promise of segments.

-- both leaves, by their places in the tree, are numbered, and the row of the one has the other
pub record HasInRow (tree : Tree) (rows : List (List Bool)) (a b : ℕ) : Type 0 where
  pub from : ℕ
  pub to : ℕ
  pub from_is : IsNumberOf tree from a
  pub to_is : IsNumberOf tree to b
  pub seen : IsIn (slice_index_or rows from []) to

-- a line of sight: a generic segment that is clear for contents that is not solid, and whose first leaf is not filled
pub record IsLineOfSight (has : Point → Contents → Type 0) (tree : Tree) (s : Segment) : Type 0 where
  pub generic : IsGeneric tree s
  pub contents : Contents
  pub not_solid : contents ≢ Solid
  pub clear : IsClear has tree s contents
  pub not_filled : (leaf_record_at tree.planes tree.shape s.from).filled ≡ false

-- the rows of its first and its last leaf have each other
pub record HoldsEnds (tree : Tree) (rows : List (List Bool)) (s : Segment) : Type 0 where
  pub there : HasInRow tree rows (leaf_at tree.planes tree.shape s.from) (leaf_at tree.planes tree.shape s.to)
  pub back : HasInRow tree rows (leaf_at tree.planes tree.shape s.to) (leaf_at tree.planes tree.shape s.from)

-- the rows hold both ends of each line of sight
abbrev pub HoldLinesOfSight : (Point → Contents → Type 0) → Tree → List (List Bool) → Type 0
HoldLinesOfSight has tree rows = (s : Segment) → IsLineOfSight has tree s → HoldsEnds tree rows s
