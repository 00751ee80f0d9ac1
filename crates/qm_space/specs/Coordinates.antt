use Rattle.std.specs.Prelude.{ℤ, pos, ◌*◌, ◌≤◌, unsigned_abs, List, slice_index_or}
use Rattle.qm_space.specs.Bounds.{rounded_bound}
use Rattle.qm_space.specs.Point.{Point}

-- each of the three whole numbers is what the rule makes of the point's coordinate
pub record AreCoordinatesBy (Rule : ℤ → ℤ → ℤ → Type 0) (p : Point) (numbers : List ℤ) : Type 0 where
  pub of_x : Rule p.x p.w (slice_index_or numbers 0 (pos 0))
  pub of_y : Rule p.y p.w (slice_index_or numbers 1 (pos 0))
  pub of_z : Rule p.z p.w (slice_index_or numbers 2 (pos 0))

-- the absolute value of each coordinate is at most the bound up to which corners are rounded
pub record HasSmallCoordinates (p : Point) : Type 0 where
  pub x_small : unsigned_abs p.x ≤ rounded_bound * unsigned_abs p.w
  pub y_small : unsigned_abs p.y ≤ rounded_bound * unsigned_abs p.w
  pub z_small : unsigned_abs p.z ≤ rounded_bound * unsigned_abs p.w
