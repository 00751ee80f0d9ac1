use Rattle.std.specs.Prelude.{All, pos, ◌≤ℤ◌}
use Rattle.qm_space.specs.Point.{Point}
use Rattle.qm_space.specs.Plane.{IsOn, IsNotBehind}
use Rattle.qm_space.specs.Cuboid.{Cuboid, IsInCuboid}
use Rattle.qm_convex.specs.Winding.{Winding}

-- Windings that fill their cuboids.

-- each point of the cuboid is on the winding's plane, and behind none of its edges
pub record HasAllOf (v : Winding) (c : Cuboid) : Type 0 where
  pub on : (p : Point) → pos 0 ≤ℤ p.w → IsInCuboid c p → IsOn v.plane p
  pub inside : (p : Point) → pos 0 ≤ℤ p.w → IsInCuboid c p → All (λ h. IsNotBehind h p) v.edges
