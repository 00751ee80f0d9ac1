use Rattle.std.specs.Prelude.{◌≡◌, ℕ, ◌<◌, pos, length, ◌⊎◌}
use Rattle.qm_numbers.specs.Rounding.{IsRoundedDown, IsRoundedUp}
use Rattle.qm_space.specs.Point.{Point}
use Rattle.qm_space.specs.Plane.{Plane}
use Rattle.qm_convex.specs.Winding.{Winding, next_place, corner_at}
use Rattle.qm_separators.specs.WholePoints.{IsWholeBy, IsNearestPoint}
use Rattle.qm_separators.specs.Across.{HasNormalOf}

-- The outline of a winding: for each corner the nearest whole point, the one below and the one above.

-- each coordinate is the one's or the other's
pub record IsMixOf (below above at : Point) : Type 0 where
  pub x : (at.x ≡ below.x) ⊎ (at.x ≡ above.x)
  pub y : (at.y ≡ below.y) ⊎ (at.y ≡ above.y)
  pub z : (at.z ≡ below.z) ⊎ (at.z ≡ above.z)
  pub weight : at.w ≡ pos 1

-- the nearest whole points of the corners
abbrev pub AreNearest : Winding → (ℕ → Point) → Type 0
AreNearest v near = (i : ℕ) → i < length v.edges → IsNearestPoint (corner_at v i) (near i)

-- the whole points below and above the corners
pub record AreAround (v : Winding) (below above : ℕ → Point) : Type 0 where
  pub low : (k : ℕ) → k < length v.edges → IsWholeBy IsRoundedDown (corner_at v k) (below k)
  pub high : (k : ℕ) → k < length v.edges → IsWholeBy IsRoundedUp (corner_at v k) (above k)

-- the plane has the normal along the edge of one place and through a whole point around the corner of another
pub record HasNormalAt (v : Winding) (near below above : ℕ → Point) (i k : ℕ) (h : Plane) : Type 0 where
  pub at : Point
  pub mix : IsMixOf (below k) (above k) at
  pub normal : HasNormalOf at (near i) (near (next_place (length v.edges) i)) h
