use Rattle.std.specs.Prelude.{ℕ, Bool, List, [], Contains, slice_index_or}
use Rattle.qm_lists.specs.WorkList.{IsIn}
use Rattle.qm_partition.specs.Tree.{Tree}
use Rattle.qm_partition.specs.LeafOfPoint.{leaf_at}
use Rattle.qm_segments.specs.Segment.{Segment}
use Rattle.qm_segments.specs.LeafNumber.{IsNumberOf}

-- the row of a segment's first leaf has one of a model's leaves, so that the model is drawn from there
pub record ShowsModel (tree : Tree) (rows : List (List Bool)) (leaves : List ℕ) (s : Segment) : Type 0 where
  pub from : ℕ
  pub from_is : IsNumberOf tree from (leaf_at tree.planes tree.shape s.from)
  pub leaf : ℕ
  pub listed : Contains leaves leaf
  pub seen : IsIn (slice_index_or rows from []) leaf
