use Rattle.std.specs.Prelude.{◌≡◌, ◌⊎◌, ℤ, pos}
use Rattle.qm_numbers.specs.Rounding.{IsRoundedDown, IsRoundedUp, IsNearest}
use Rattle.qm_space.specs.Point.{Point}

-- Whole points near a point of space.

-- a whole number is what one gets where the fraction is rounded down, or where it is rounded up
abbrev pub IsRoundedEitherWay : ℤ → ℤ → ℤ → Type 0
IsRoundedEitherWay over under q = IsRoundedDown over under q ⊎ IsRoundedUp over under q

-- a point of w = 1, each coordinate of which is what the rule makes of the other point's coordinate
pub record IsWholeBy (Rule : ℤ → ℤ → ℤ → Type 0) (p whole : Point) : Type 0 where
  pub x : Rule p.x p.w whole.x
  pub y : Rule p.y p.w whole.y
  pub z : Rule p.z p.w whole.z
  pub weight : whole.w ≡ pos 1

-- the whole point nearest to the point
abbrev pub IsNearestPoint : Point → Point → Type 0
IsNearestPoint p whole = IsWholeBy IsNearest p whole

-- a whole point around the point, at most eight in all
abbrev pub IsAround : Point → Point → Type 0
IsAround p whole = IsWholeBy IsRoundedEitherWay p whole
