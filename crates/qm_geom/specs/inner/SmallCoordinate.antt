use Rattle.std.specs.Prelude.{ℤ, pos, ◌*◌, ◌≤◌, ◌<ℤ◌, unsigned_abs}
use Rattle.qm_space.specs.Bounds.{rounded_bound, meet_bound, meet_weight_bound}

-- a coordinate up to the bound of those that are rounded, as a fraction of numbers that a corner may have
pub record IsSmallCoordinate (over under : ℤ) : Type 0 where
  pub positive : pos 0 <ℤ under
  pub small : unsigned_abs over ≤ rounded_bound * unsigned_abs under
  pub over_size : unsigned_abs over ≤ meet_bound
  pub under_size : unsigned_abs under ≤ meet_weight_bound
