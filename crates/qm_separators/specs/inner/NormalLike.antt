use Rattle.std.specs.Prelude.{◌≡◌}
use Rattle.qm_space.specs.Plane.{Plane, flipped}
use Rattle.qm_space.specs.Vector.{normal_of}

-- a plane with the normal of another, or with its opposite
pub data HasNormalLike (g h : Plane) : Type 0 where
  alike : normal_of g ≡ normal_of h → HasNormalLike g h
  opposite : normal_of g ≡ normal_of (flipped h) → HasNormalLike g h
