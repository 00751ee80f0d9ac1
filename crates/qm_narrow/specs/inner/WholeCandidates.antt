use Rattle.std.specs.Prelude.{◌≡◌, false}
use Rattle.qm_space.specs.Point.{Point, whole_point, AreCoordinates}
use Rattle.qm_space.specs.Vector.{normal_of}
use Rattle.qm_space.specs.ThreePoints.{outward_plane}
use Rattle.qm_geom.specs.declared.vector.Vector.{Vector}
use Rattle.qm_geom.specs.Vectors.{direction_of}
use Rattle.qm_convex.specs.Winding.{Winding}
use Rattle.qm_separators.specs.inner.Found.{AreCandidates}
use Rattle.qm_separators.specs.inner.Outline.{IsMixOf}
use Rattle.qm_narrow.specs.declared.outlook.Outlook.{Outlook}
use Rattle.qm_narrow.specs.declared.candidates.Points.{Points}
use Rattle.qm_narrow.specs.inner.Look.{PartsNowhere}

-- Whole points through which separators are sought.

-- no plane with the normal of the three points parts the windings towards a side that the outlook does not have
pub record IsToldBy (source pass : Winding) (outlook : Outlook) (at from to : Point) : Type 0 where
  pub ahead : (n : Vector) → direction_of n ≡ normal_of (outward_plane at from to) → outlook.ahead ≡ false → PartsNowhere source pass n
  pub back : (n : Vector) → direction_of n ≡ normal_of (outward_plane at from to) → outlook.back ≡ false → PartsNowhere pass source n

-- whole points of the cube: each mix of the first two is a candidate with the other two, and the outlook tells of it
pub record AreWholeCandidates (source pass : Winding) (outlook : Outlook) (points : Points) : Type 0 where
  pub below_in : AreCoordinates points.below
  pub above_in : AreCoordinates points.above
  pub from_in : AreCoordinates points.from
  pub to_in : AreCoordinates points.to
  pub each : AreCandidates source pass (whole_point points.below) (whole_point points.above) (whole_point points.from) (whole_point points.to)
  pub told : (at : Point) → IsMixOf (whole_point points.below) (whole_point points.above) at → IsToldBy source pass outlook at (whole_point points.from) (whole_point points.to)
