use Rattle.qm_space.specs.Point.{Point}
use Rattle.qm_space.specs.Plane.{IsBehind, IsInFront}
use Rattle.qm_space.specs.Line.{IsBetween}
use Rattle.qm_convex.specs.Winding.{IsInRegion}
use Rattle.qm_contacts.specs.Portals.{Portal}
use Rattle.qm_segments.specs.Segment.{Segment}

-- the segment goes through the portal at the point x, strictly inside its polygon, from the back of its turned plane to
-- the front
pub record GoesThrough (s : Segment) (portal : Portal) (x : Point) : Type 0 where
  pub between : IsBetween x s.from s.to
  pub inside : IsInRegion portal.winding x
  pub behind : IsBehind portal.into s.from
  pub in_front : IsInFront portal.into s.to
