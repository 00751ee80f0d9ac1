use Rattle.std.specs.Prelude.{ℤ, pos, Bool, int_lt, if◌then◌else◌}
use Rattle.qm_partition.specs.declared.node.Node.{Node}
use Rattle.qm_partition.specs.declared.node.Child.{Child}
use Rattle.qm_spans.specs.declared.parting.Parting.{Parting}
use Rattle.qm_spans.specs.Partings.{crossing_at, crosses_between, is_behind_after}

-- A walk to the leaf just after a parting, which is known to leave what it has come to no later than at another one.

-- the child on a side of a node
abbrev pub child_on : Node → Bool → Child
child_on here behind = if behind then here.back else here.front

-- the child of a node to which it goes on, and the parting at which the segment leaves that child at the latest, where the
-- node's plane has the values u and v at the ends
abbrev pub next_child : Node → ℤ → ℤ → (at leave : Parting) → Child × Parting
next_child here u v at leave =
    if crosses_between u v at leave then (child_on here (int_lt u (pos 0)), crossing_at u v) else (child_on here (is_behind_after u v at), leave)
