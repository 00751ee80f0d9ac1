use Rattle.std.specs.Prelude.{◌≡◌, ℤ, pos, ◌<ℤ◌}
use Rattle.qm_space.specs.Plane.{Plane, scaled}

-- the plane h is a positive multiple of g: the same points are in front of it, on it and behind it
pub record IsPositiveMultiple (h g : Plane) : Type 0 where
  pub factor : ℤ
  pub positive : pos 0 <ℤ factor
  pub multiple : h ≡ scaled factor g

-- the planes have the same points in front, on them and behind: a positive multiple of the one is a positive multiple of
-- the other
pub record HasSameSides (a h : Plane) : Type 0 where
  pub times : ℤ
  pub factor : ℤ
  pub some_times : pos 0 <ℤ times
  pub some_factor : pos 0 <ℤ factor
  pub multiple : scaled times a ≡ scaled factor h
