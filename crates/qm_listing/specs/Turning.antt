use Rattle.std.specs.Prelude.{pos, ◌+ℤ◌, ◌-ℤ◌, ◌*ℤ◌, ◌<ℤ◌}
use Rattle.qm_space.specs.Point.{Point}
use Rattle.qm_space.specs.Plane.{Plane}
use Rattle.qm_space.specs.Vector.{cross}

-- the step from a point to another, times the w of both
abbrev pub step_of : Point → Point → Point
step_of from to = record {
  x = (to.x *ℤ from.w) -ℤ (from.x *ℤ to.w);
  y = (to.y *ℤ from.w) -ℤ (from.y *ℤ to.w);
  z = (to.z *ℤ from.w) -ℤ (from.z *ℤ to.w);
  w = pos 0;
}

-- three points turn to the front of a plane: (c0 - c1) × (c2 - c1) points there
unfoldable pub TurnToFront : Plane → Point → Point → Point → Type 0
TurnToFront h c0 c1 c2 =
    let n = cross (step_of c1 c0) (step_of c1 c2) in
    pos 0 <ℤ (((h.nx *ℤ n.x) +ℤ (h.ny *ℤ n.y)) +ℤ (h.nz *ℤ n.z))
