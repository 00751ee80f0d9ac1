use Rattle.std.specs.Prelude.{pos, int_lt, List, if◌then◌else◌}
use Rattle.qm_space.specs.Point.{Point}
use Rattle.qm_space.specs.Plane.{Plane}
use Rattle.qm_partition.specs.declared.node.Child.{Child}
use Rattle.qm_partition.specs.declared.node.Node.{Node}
use Rattle.qm_partition.specs.LeafOfPoint.{node_value}

-- the child of a node on the point's side
abbrev pub child_towards : List Plane → Node → Point → Child
child_towards planes here x = if int_lt (node_value planes here.plane x) (pos 0) then here.back else here.front
