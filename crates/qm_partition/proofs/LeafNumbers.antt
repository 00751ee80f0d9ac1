-- The leaf of a point is the one of its number.
use Rattle.std.proofs.Common.{◌≡◌, ◌<◌, inl, inr, List, Some, refl, ◌∙◌}
use Rattle.std.specs.Prelude.{slice_get}
use Rattle.std.proofs.lemmas.Option.{slice_get_within}
use Rattle.qm_space.specs.Point.{Point}
use Rattle.qm_space.specs.Plane.{Plane}
use Rattle.qm_partition.specs.Partition.{Partition, leaf, node}
use Rattle.qm_partition.specs.Counting.{leaves_of, leaf_count}
use Rattle.qm_partition.specs.LeafOfPoint.{node_value, leaf_record_at, leaf_at}
use Rattle.qm_numbers.proofs.Signs.{side_test}
use Rattle.qm_lists.proofs.Places.{slice_get-append_old, slice_get-append_past}

-- the leaf of a point has the point's number
pub leaf_of_number : (planes : List Plane) (shape : Partition) (x : Point) → slice_get (leaves_of shape) (leaf_at planes shape x) ≡ Some (leaf_record_at planes shape x)
leaf_of_number planes (leaf found) x = refl
leaf_of_number planes (node n front back) x = elim (side_test (node_value planes n x)) [
  | inl behind ↦ rw behind.0 (slice_get-append_past (leaves_of front) (leaves_of back) (leaf_at planes back x) ∙ leaf_of_number planes back x)
  | inr ahead ↦ rw ahead.0 (slice_get-append_old (leaves_of front) (leaves_of back) _ (leaf_at planes front x) (leaf_of_number planes front x))
]

-- so there is such a leaf
pub leaf_at-within : (planes : List Plane) (shape : Partition) (x : Point) → leaf_at planes shape x < leaf_count shape
leaf_at-within planes shape x = slice_get_within (leaves_of shape) (leaf_at planes shape x) (leaf_record_at planes shape x) (leaf_of_number planes shape x)
