use Rattle.std.specs.Prelude.{List, All, pos, ◌<ℤ◌}
use Rattle.qm_space.specs.Plane.{Plane}
use Rattle.qm_space.specs.Cuboid.{Cuboid, greatest_value}

-- Cuboids that reach beyond planes.

-- the cuboid reaches in front of each of some planes
abbrev pub ReachesBeyond : Cuboid → List Plane → Type 0
ReachesBeyond c planes = All (λ h. pos 0 <ℤ greatest_value h c) planes
