use Rattle.std.specs.Prelude.{◌≡◌, ℤ, pos, ◌*◌, ◌≤◌, ◌<◌, ◌+ℤ◌, ◌-ℤ◌, ◌*ℤ◌, ◌≤ℤ◌, ◌<ℤ◌, unsigned_abs}

-- Whole numbers near the fraction over / under, for under above 0.

-- the greatest whole number that is at most the fraction
pub record IsRoundedDown (over under q : ℤ) : Type 0 where
  pub at_most : (q *ℤ under) ≤ℤ over
  pub next : over <ℤ ((q +ℤ pos 1) *ℤ under)

-- the least whole number that is at least the fraction
pub record IsRoundedUp (over under q : ℤ) : Type 0 where
  pub at_least : over ≤ℤ (q *ℤ under)
  pub previous : ((q -ℤ pos 1) *ℤ under) <ℤ over

-- the nearest whole number: at most a half away, and where a half away, farther from 0 than the fraction
pub record IsNearest (over under q : ℤ) : Type 0 where
  pub near : 2 * unsigned_abs (over -ℤ (q *ℤ under)) ≤ unsigned_abs under
  pub away : 2 * unsigned_abs (over -ℤ (q *ℤ under)) ≡ unsigned_abs under → unsigned_abs over < unsigned_abs (q *ℤ under)
