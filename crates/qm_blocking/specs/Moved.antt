use Rattle.std.specs.Prelude.{ℕ, ◌≤◌, ℤ, pos, ◌+ℤ◌, ◌-ℤ◌, ◌≤ℤ◌, unsigned_abs}
use Rattle.qm_space.specs.Plane.{Plane}
use Rattle.qm_space.specs.Cuboid.{Stretch, Cuboid, least_product}

-- Planes that are moved outward by a box. Where they are turned outward of a solid, a point at which the box meets the solid is
-- behind all of them.

-- the least value that the normal of a plane has at a corner of the box
abbrev pub least_over : Cuboid → Plane → ℤ
least_over box h = (least_product h.nx box.x +ℤ least_product h.ny box.y) +ℤ least_product h.nz box.z

-- the plane, moved to its front by the opposite of that value
abbrev pub moved_by : Cuboid → Plane → Plane
moved_by box h = record { nx = h.nx; ny = h.ny; nz = h.nz; d = h.d -ℤ least_over box h }

-- the stretch has 0
pub record HasZero (stretch : Stretch) : Type 0 where
  pub low : stretch.low ≤ℤ pos 0
  pub high : pos 0 ≤ℤ stretch.high

-- the box has the point that it is set at
pub record HasOrigin (box : Cuboid) : Type 0 where
  pub x : HasZero box.x
  pub y : HasZero box.y
  pub z : HasZero box.z

-- a stretch within a bound
pub record IsStretchUpTo (bound : ℕ) (stretch : Stretch) : Type 0 where
  pub low : unsigned_abs stretch.low ≤ bound
  pub high : unsigned_abs stretch.high ≤ bound

pub record IsBoxUpTo (bound : ℕ) (box : Cuboid) : Type 0 where
  pub x : IsStretchUpTo bound box.x
  pub y : IsStretchUpTo bound box.y
  pub z : IsStretchUpTo bound box.z

-- a box that moves: it has the point that it is set at, and does not reach farther than 64
pub record IsMovingBox (box : Cuboid) : Type 0 where
  pub has_origin : HasOrigin box
  pub short : IsBoxUpTo 64 box
