use Rattle.std.specs.Prelude.{ℤ, ◌≤ℤ◌, ◌<ℤ◌, List}
use Rattle.qm_space.specs.Point.{Point}
use Rattle.qm_space.specs.Plane.{IsInFront, IsNotInFront}
use Rattle.qm_space.specs.LeastDistance.{plane_at_distance}

-- at this distance and any greater the corner is not in front of the plane, and at any lesser distance it is
pub record IsLeastDistanceOf (normal : List ℤ) (p : Point) (least : ℤ) : Type 0 where
  pub not_in_front : (d : ℤ) → least ≤ℤ d → IsNotInFront (plane_at_distance normal d) p
  pub in_front : (d : ℤ) → d <ℤ least → IsInFront (plane_at_distance normal d) p
