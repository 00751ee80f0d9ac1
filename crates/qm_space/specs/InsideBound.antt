use Rattle.std.specs.Prelude.{ℕ, ℤ, pos, neg_ℤ, ◌*ℤ◌, ◌<ℤ◌}
use Rattle.qm_space.specs.Point.{Point}

-- The cube of a tree file's world, whose faces are as far from its middle as the file's bound says.

-- strictly between the cube's two faces across one axis
pub record IsWithinBound (bound : ℕ) (coordinate w : ℤ) : Type 0 where
  pub above : neg_ℤ (pos bound *ℤ w) <ℤ coordinate
  pub below : coordinate <ℤ (pos bound *ℤ w)

-- a point strictly inside the cube
pub record IsInsideBound (bound : ℕ) (p : Point) : Type 0 where
  pub weight : pos 0 <ℤ p.w
  pub x : IsWithinBound bound p.x p.w
  pub y : IsWithinBound bound p.y p.w
  pub z : IsWithinBound bound p.z p.w
