use Rattle.std.specs.Prelude.{ℤ}
use Rattle.qm_numbers.specs.Rounding.{IsRoundedDown, IsRoundedUp, IsNearest}
use Rattle.qm_narrow.specs.declared.near.Near.{Near}

-- the whole numbers near a fraction: rounded down, rounded up, and the nearest one
pub record AreNear (over under : ℤ) (near : Near) : Type 0 where
  pub below : IsRoundedDown over under near.below
  pub above : IsRoundedUp over under near.above
  pub nearest : IsNearest over under near.nearest
