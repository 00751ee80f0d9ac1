use Rattle.std.specs.Prelude.{◌≢◌, ℕ, ◌+◌, ℤ, pos, int_lt, List, if◌then◌else◌}
use Rattle.qm_space.specs.Point.{Point}
use Rattle.qm_space.specs.Plane.{Plane, value}
use Rattle.qm_partition.specs.declared.node.Leaf.{Leaf}
use Rattle.qm_partition.specs.Partition.{Partition, leaf, node}
use Rattle.qm_space.specs.Book.{plane_at}
use Rattle.qm_partition.specs.Counting.{leaf_count}

-- the value at a point of the plane of a number
unfoldable pub node_value : List Plane → ℕ → Point → ℤ
node_value planes n x = value (plane_at planes n) x

-- the leaf of a point: at each node to the front where the point is not behind the plane
abbrev pub leaf_record_at : List Plane → Partition → Point → Leaf
leaf_record_at planes (leaf found) x = found
leaf_record_at planes (node n front back) x =
    if int_lt (node_value planes n x) (pos 0) then leaf_record_at planes back x else leaf_record_at planes front x

-- its number, where leaves are numbered front first from 0 on
abbrev pub leaf_at : List Plane → Partition → Point → ℕ
leaf_at planes (leaf found) x = 0
leaf_at planes (node n front back) x =
    if int_lt (node_value planes n x) (pos 0) then leaf_count front + leaf_at planes back x
    else leaf_at planes front x

-- a point that lies on the plane of no node
abbrev pub IsOffNodePlanes : List Plane → Partition → Point → Type 0
IsOffNodePlanes planes (leaf found) x = Unit {0}
IsOffNodePlanes planes (node n front back) x =
    (node_value planes n x ≢ pos 0) × IsOffNodePlanes planes front x × IsOffNodePlanes planes back x
