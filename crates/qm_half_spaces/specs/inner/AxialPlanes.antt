-- Planes that bound others across the axes.
use Rattle.std.specs.Prelude.{◌≤ℤ◌, List, ◌∷◌, Contains}
use Rattle.qm_space.specs.Plane.{Plane}
use Rattle.qm_convex.specs.Section.{HasSameNormal, IsAxialBound}

-- a plane has the normal of another, and lies as far in or farther
pub record IsFarther (h bound : Plane) : Type 0 where
  pub normal : HasSameNormal h bound
  pub inside : bound.d ≤ℤ h.d

-- a bound across the axis of a wall: the wall itself, or one of some planes
pub record IsBoundAmong (planes : List Plane) (bound wall : Plane) : Type 0 where
  pub axial : IsAxialBound bound wall
  pub among : Contains (wall ∷ planes) bound
