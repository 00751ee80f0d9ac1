use Rattle.std.specs.Prelude.{◌≡◌, pos}
use Rattle.qm_space.specs.Point.{Point}
use Rattle.qm_space.specs.Plane.{Plane, IsOn}

-- a direction, not of length 0, that lies in three planes
pub record LiesAlong (v : Point) (a b c : Plane) : Type 0 where
  pub weight : v.w ≡ pos 0
  pub some : (v.x ≡ pos 0 → v.y ≡ pos 0 → v.z ≡ pos 0 → ⊥)
  pub first : IsOn a v
  pub second : IsOn b v
  pub third : IsOn c v
