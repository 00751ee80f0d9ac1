use Rattle.std.specs.Prelude.{pos, ◌-ℤ◌, ◌*ℤ◌}
use Rattle.qm_space.specs.Point.{Point}
use Rattle.qm_space.specs.Plane.{Plane}

-- A point with w = 0 stands for a direction.

-- the normal of a plane
abbrev pub normal_of : Plane → Point
normal_of h = record { x = h.nx; y = h.ny; z = h.nz; w = pos 0 }

-- the step from one whole point to another
abbrev pub step_between : Point → Point → Point
step_between from to = record { x = to.x -ℤ from.x; y = to.y -ℤ from.y; z = to.z -ℤ from.z; w = pos 0 }

-- the direction across two others: the cross product; a polynomial, so the words made of it are unfoldable
abbrev pub cross : Point → Point → Point
cross a b = record {
  x = (a.y *ℤ b.z) -ℤ (a.z *ℤ b.y);
  y = (a.z *ℤ b.x) -ℤ (a.x *ℤ b.z);
  z = (a.x *ℤ b.y) -ℤ (a.y *ℤ b.x);
  w = pos 0;
}
