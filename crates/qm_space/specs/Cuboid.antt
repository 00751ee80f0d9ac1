use Rattle.std.specs.Prelude.{ℤ, pos, neg_ℤ, ◌+ℤ◌, ◌-ℤ◌, ◌*ℤ◌, ◌≤ℤ◌, int_lt, if◌then◌else◌}
use Rattle.qm_space.specs.Bounds.{extent}
use Rattle.qm_space.specs.Point.{Point, IsCoordinate}
use Rattle.qm_space.specs.Plane.{Plane, IsOn, IsNotBehind}

-- from one whole number to another, both included
pub record Stretch : Type 0 where
  pub low : ℤ
  pub high : ℤ

-- a stretch across each axis
pub record Cuboid : Type 0 where
  pub x : Stretch
  pub y : Stretch
  pub z : Stretch

-- both ends are coordinates of the closed cube
pub record IsCoordinateStretch (stretch : Stretch) : Type 0 where
  pub low : IsCoordinate stretch.low
  pub high : IsCoordinate stretch.high

-- a coordinate of a point lies in the stretch
pub record IsInStretch (stretch : Stretch) (coordinate w : ℤ) : Type 0 where
  pub above : (stretch.low *ℤ w) ≤ℤ coordinate
  pub below : coordinate ≤ℤ (stretch.high *ℤ w)

-- a point of the cuboid or of its sides
pub record IsInCuboid (c : Cuboid) (p : Point) : Type 0 where
  pub x : IsInStretch c.x p.x p.w
  pub y : IsInStretch c.y p.y p.w
  pub z : IsInStretch c.z p.z p.w

-- the closed cube as a cuboid
abbrev pub whole_stretch : Stretch
whole_stretch = record { low = neg_ℤ extent; high = extent }

abbrev pub whole_cuboid : Cuboid
whole_cuboid = record { x = whole_stretch; y = whole_stretch; z = whole_stretch }

-- the least and the greatest product of a number and one of a stretch
unfoldable pub least_product : ℤ → Stretch → ℤ
least_product n stretch = if int_lt n (pos 0) then n *ℤ stretch.high else n *ℤ stretch.low

unfoldable pub greatest_product : ℤ → Stretch → ℤ
greatest_product n stretch = if int_lt n (pos 0) then n *ℤ stretch.low else n *ℤ stretch.high

-- the least and the greatest value of a plane at a point of a cuboid, for points of w = 1
unfoldable pub least_value : Plane → Cuboid → ℤ
least_value h c = ((least_product h.nx c.x +ℤ least_product h.ny c.y) +ℤ least_product h.nz c.z) -ℤ h.d

unfoldable pub greatest_value : Plane → Cuboid → ℤ
greatest_value h c = ((greatest_product h.nx c.x +ℤ greatest_product h.ny c.y) +ℤ greatest_product h.nz c.z) -ℤ h.d

-- the cuboid t has all of the cuboid c that is not behind a plane
abbrev pub IsTightened : Cuboid → Cuboid → Plane → Type 0
IsTightened t c h = (p : Point) → pos 0 ≤ℤ p.w → IsInCuboid c p → IsNotBehind h p → IsInCuboid t p

-- the cuboid t has all of the cuboid c that is on a plane
abbrev pub IsTightenedOn : Cuboid → Cuboid → Plane → Type 0
IsTightenedOn t c h = (p : Point) → pos 0 ≤ℤ p.w → IsInCuboid c p → IsOn h p → IsInCuboid t p

-- the stretch t has all of a stretch that is, times a number n, at least d
abbrev pub IsTightenedStretch : Stretch → Stretch → ℤ → ℤ → Type 0
IsTightenedStretch t stretch n d = (c w : ℤ) → pos 0 ≤ℤ w → IsInStretch stretch c w → (d *ℤ w) ≤ℤ (n *ℤ c) → IsInStretch t c w

-- the stretch t has all of a stretch that is, times a number n, from d to e
abbrev pub IsTightenedBetween : Stretch → Stretch → ℤ → ℤ → ℤ → Type 0
IsTightenedBetween t stretch n d e = (c w : ℤ) → pos 0 ≤ℤ w → IsInStretch stretch c w → (d *ℤ w) ≤ℤ (n *ℤ c) → (n *ℤ c) ≤ℤ (e *ℤ w) → IsInStretch t c w
