use Rattle.std.specs.Prelude.{◌≡◌, ℕ, ℤ, pos, unsigned_abs}
use Rattle.qm_numbers.specs.Gcd.{gcd}
use Rattle.qm_space.specs.Point.{Point}
use Rattle.qm_space.specs.Plane.{Plane, plane_of}
use Rattle.qm_geom.specs.declared.axis.Axis.{Axis}
use Rattle.qm_geom.specs.declared.axis.Axis.TheVariants.{X, Y, Z}

-- no component of the normal lies across the axis
abbrev pub HasNormalAlong : Plane → Axis → Type 0
HasNormalAlong h X = (h.ny ≡ pos 0) × (h.nz ≡ pos 0)
HasNormalAlong h Y = (h.nx ≡ pos 0) × (h.nz ≡ pos 0)
HasNormalAlong h Z = (h.nx ≡ pos 0) × (h.ny ≡ pos 0)

-- the plane across the axis at a point in thousandths of a map unit, before it is brought to lowest terms
abbrev pub plane_across : Axis → Point → Plane
plane_across X p = plane_of (pos 1000) (pos 0) (pos 0) p.x
plane_across Y p = plane_of (pos 0) (pos 1000) (pos 0) p.y
plane_across Z p = plane_of (pos 0) (pos 0) (pos 1000) p.z

-- what a coordinate in thousandths and 1000 have in common
abbrev pub coordinate_factor : ℤ → ℕ
coordinate_factor c = gcd (unsigned_abs c) 1000
