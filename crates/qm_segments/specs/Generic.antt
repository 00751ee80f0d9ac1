use Rattle.std.specs.Prelude.{◌≡◌, ℕ, Contains}
use Rattle.qm_space.specs.Point.{Point, IsInCube}
use Rattle.qm_space.specs.Plane.{Plane, IsOn}
use Rattle.qm_space.specs.Book.{plane_at}
use Rattle.qm_partition.specs.Tree.{Tree}
use Rattle.qm_partition.specs.Counting.{node_planes}
use Rattle.qm_partition.specs.LeafOfPoint.{IsOffNodePlanes}
use Rattle.qm_segments.specs.Segment.{Segment, IsOnSegment}

-- some node of the tree names the plane
abbrev pub IsNodePlane : Tree → Plane → Type 0
IsNodePlane tree h = (n : ℕ) × Contains (node_planes tree.shape) n × (plane_at tree.planes n ≡ h)

-- a segment inside the cube with both ends off all node planes, and no point on two different ones
pub record IsGeneric (tree : Tree) (s : Segment) : Type 0 where
  pub from_in_cube : IsInCube s.from
  pub to_in_cube : IsInCube s.to
  pub from_off : IsOffNodePlanes tree.planes tree.shape s.from
  pub to_off : IsOffNodePlanes tree.planes tree.shape s.to
  pub one_plane : (x : Point) (g h : Plane) → IsOnSegment s x → IsNodePlane tree g → IsNodePlane tree h → IsOn g x → IsOn h x → g ≡ h
