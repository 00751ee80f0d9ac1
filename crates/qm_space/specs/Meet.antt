use Rattle.std.specs.Prelude.{◌≤◌, unsigned_abs}
use Rattle.qm_space.specs.Bounds.{meet_bound, meet_weight_bound}
use Rattle.qm_space.specs.Point.{Point}
use Rattle.qm_space.specs.Plane.{Plane}
use Rattle.qm_space.specs.Determinant.{determinant}
use Rattle.qm_space.specs.Vector.{cross, normal_of}

-- the point in which three planes meet, by Cramer's rule; its w is 0 where they do not meet in exactly one point
unfoldable pub meet : Plane → Plane → Plane → Point
meet a b c = record {
  x = determinant a.d a.ny a.nz b.d b.ny b.nz c.d c.ny c.nz;
  y = determinant a.nx a.d a.nz b.nx b.d b.nz c.nx c.d c.nz;
  z = determinant a.nx a.ny a.d b.nx b.ny b.d c.nx c.ny c.d;
  w = determinant a.nx a.ny a.nz b.nx b.ny b.nz c.nx c.ny c.nz;
}

-- the direction along two planes, across both normals
unfoldable pub along : Plane → Plane → Point
along a b = cross (normal_of a) (normal_of b)

-- the sizes of the numbers of the point in which three reduced planes meet
pub record HasMeetSizes (p : Point) : Type 0 where
  pub x_small : unsigned_abs p.x ≤ meet_bound
  pub y_small : unsigned_abs p.y ≤ meet_bound
  pub z_small : unsigned_abs p.z ≤ meet_bound
  pub w_small : unsigned_abs p.w ≤ meet_weight_bound
