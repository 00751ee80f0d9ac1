-- A point is off the node planes if and only if it is on the plane of no node's number.
use Rattle.std.proofs.Common.{◌≢◌, ℕ, pos, List, ◌++◌, All, ◌↔◌}
use Rattle.std.proofs.lemmas.List.Elements.{All-nil, All-cons, All-head, All-tail, All-append}
use Rattle.qm_lists.proofs.Elements.{All-first_part, All-last_part}
use Rattle.qm_space.specs.Point.{Point}
use Rattle.qm_space.specs.Plane.{Plane}
use Rattle.qm_partition.specs.Partition.{Partition, leaf, node}
use Rattle.qm_partition.specs.Counting.{node_planes}
use Rattle.qm_partition.specs.LeafOfPoint.{node_value, IsOffNodePlanes}

module _ (planes : List Plane) (x : Point) where
  -- not on the plane of this number
  abbrev pub IsOff : ℕ → Type 0
  IsOff n = node_value planes n x ≢ pos 0

  off_each : (shape : Partition) → IsOffNodePlanes planes shape x → All IsOff (node_planes shape)
  off_each (leaf found) off = All-nil IsOff
  off_each (node n front back) off =
      All-cons IsOff n (node_planes front ++ node_planes back) off.0 (All-append IsOff (node_planes front) (node_planes back) (off_each front off.1) (off_each back off.2))

  off_all : (shape : Partition) → All IsOff (node_planes shape) → IsOffNodePlanes planes shape x
  off_all (leaf found) each = tt
  off_all (node n front back) each =
      let below = All-tail IsOff n (node_planes front ++ node_planes back) each in
      (All-head IsOff n (node_planes front ++ node_planes back) each, off_all front (All-first_part IsOff (node_planes front) (node_planes back) below), off_all back (All-last_part IsOff (node_planes front) (node_planes back) below))

  pub off_node_planes : (shape : Partition) → IsOffNodePlanes planes shape x ↔ All IsOff (node_planes shape)
  off_node_planes shape = (off_each shape, off_all shape)
