use Rattle.std.specs.Prelude.{List, All}
use Rattle.qm_space.specs.Bounds.{world_extent}
use Rattle.qm_space.specs.Plane.{Plane}
use Rattle.qm_convex.specs.Winding.{Winding}
use Rattle.qm_face_layout.specs.PlaneNumbers.{IsNamedPlane}

-- the plane of a winding and those of its edges are planes of a book or walls of the world's cube
pub record HasNamedPlanes (planes : List Plane) (w : Winding) : Type 0 where
  pub own : IsNamedPlane planes world_extent w.plane
  pub edges : All (IsNamedPlane planes world_extent) w.edges
