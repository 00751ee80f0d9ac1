use Rattle.std.specs.Prelude.{◌≡◌, ℕ, pos, ℤ, List, length, Some, slice_get, Contains, unsigned_abs}
use Rattle.std.specs.Int.{◌∣◌}
use Rattle.qm_space.specs.Point.{Point, point_times}
use Rattle.qm_space.specs.Plane.{Plane}
use Rattle.qm_space.specs.Vector.{normal_of}
use Rattle.qm_space.specs.ThreePoints.{outward_plane}
use Rattle.qm_convex.specs.Winding.{next_place}
use Rattle.qm_separators.specs.WholePoints.{IsNearestPoint, IsAround}

-- Planes along an edge of one polygon and through a corner of another, both brought to whole points.

-- no whole number but 1 divides all three components of the normal
abbrev pub HasLowestNormal : Plane → Type 0
HasLowestNormal h = (k : ℕ) → k ∣ unsigned_abs h.nx → k ∣ unsigned_abs h.ny → k ∣ unsigned_abs h.nz → k ≡ 1

-- the plane has the normal of the plane through three whole points, to either side, in lowest terms; three points that lie
-- on one line give none
pub record HasNormalOf (at from to : Point) (h : Plane) : Type 0 where
  pub factor : ℤ
  pub some_factor : (factor ≡ pos 0 → ⊥)
  pub multiple : normal_of (outward_plane at from to) ≡ point_times factor (normal_of h)
  pub lowest : HasLowestNormal h

-- the plane has the normal of one through an edge of the one list of corners, its ends taken to the nearest whole points,
-- and through a whole point around a corner of the other list
pub record HasNormalAcross (edges others : List Point) (h : Plane) : Type 0 where
  pub place : ℕ
  pub first : Point
  pub second : Point
  pub corner : Point
  pub first_is : slice_get edges place ≡ Some first
  pub second_is : slice_get edges (next_place (length edges) place) ≡ Some second
  pub corner_is : Contains others corner
  pub from : Point
  pub to : Point
  pub at : Point
  pub from_is : IsNearestPoint first from
  pub to_is : IsNearestPoint second to
  pub at_is : IsAround corner at
  pub normal : HasNormalOf at from to h
