use Rattle.std.specs.Prelude.{◌+◌, ◌*◌, ◌≤◌, unsigned_abs}
use Rattle.qm_space.specs.Bounds.{world_extent, spanned_normal_bound, spanned_distance_bound}
use Rattle.qm_space.specs.Plane.{Plane}

-- the sizes of the plane that three points in thousandths span, before it is brought to lowest terms
pub record HasSpannedSizes (h : Plane) : Type 0 where
  pub nx_small : unsigned_abs h.nx ≤ spanned_normal_bound
  pub ny_small : unsigned_abs h.ny ≤ spanned_normal_bound
  pub nz_small : unsigned_abs h.nz ≤ spanned_normal_bound
  pub d_small : unsigned_abs h.d ≤ spanned_distance_bound

-- the distance is at most what the normal allows a plane that has a point of the closed cube
abbrev pub IsWithinReach : Plane → Type 0
IsWithinReach h = unsigned_abs h.d ≤ world_extent * (unsigned_abs h.nx + unsigned_abs h.ny + unsigned_abs h.nz)
