use Rattle.std.specs.Prelude.{◌<ℤ◌, ◌⊎◌}
use Rattle.qm_space.specs.Plane.{Plane, flipped}
use Rattle.qm_convex.specs.Section.{HasSameNormal}

-- a plane has the normal of another, and lies further in its front
pub record IsNearer (own plane : Plane) : Type 0 where
  pub normal : HasSameNormal own plane
  pub further : plane.d <ℤ own.d

-- a plane is parallel to another, and lies in its front
abbrev pub IsBefore : Plane → Plane → Type 0
IsBefore own plane = IsNearer own plane ⊎ IsNearer (flipped own) plane
