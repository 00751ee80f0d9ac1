use Rattle.std.specs.Prelude.{◌≡◌, ◌↔◌}
use Rattle.qm_space.specs.Point.{Point, IsInCube}
use Rattle.qm_space.specs.Plane.{Plane, IsOn}
use Rattle.qm_space.specs.Cuboid.{Cuboid, IsInCuboid}
use Rattle.qm_space.specs.Cube.{cube_walls, IsInClosedCube, IsOnCubeFace}
use Rattle.qm_convex.specs.Winding.{Winding, HasEdgesAmong, IsInRegion, IsConvex}

-- no point of the world's cube is on the plane
abbrev pub MissesCube : Plane → Type 0
MissesCube h = (p : Point) → IsInCube p → IsOn h p → ⊥

-- the winding is the part of the plane inside the world's cube
pub record IsWorldPart (w : Winding) (h : Plane) : Type 0 where
  pub convex : IsConvex w
  pub plane : w.plane ≡ h
  pub points : (p : Point) → IsInRegion w p ↔ (IsOn h p × IsInCube p)
  pub edges : HasEdgesAmong w cube_walls

-- a convex polygon in the world's cube or on its walls
pub record IsInWorld (v : Winding) : Type 0 where
  pub convex : IsConvex v
  pub inside : (p : Point) → IsInRegion v p → IsInClosedCube p

-- each point of the winding lies in the cuboid
abbrev pub LiesWithin : Winding → Cuboid → Type 0
LiesWithin v c = (p : Point) → IsInRegion v p → IsInCuboid c p

-- the winding is the cube's face on a wall, seen from inside
pub record IsCubeFace (w : Winding) (wall : Plane) : Type 0 where
  pub convex : IsConvex w
  pub plane : w.plane ≡ wall
  pub points : (p : Point) → IsInRegion w p ↔ IsOnCubeFace wall p
