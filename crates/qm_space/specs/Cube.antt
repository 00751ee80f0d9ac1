use Rattle.std.specs.Prelude.{◌≢◌, ℤ, pos, neg_ℤ, ◌*ℤ◌, ◌<ℤ◌, ◌≤ℤ◌, List, [], ◌∷◌, All}
use Rattle.qm_space.specs.Bounds.{extent}
use Rattle.qm_space.specs.Point.{Point}
use Rattle.qm_space.specs.Plane.{Plane, IsOn, IsInFront}

-- The world's cube by its six walls, and the cube together with them.

-- the plane mirrored at the origin: it faces this one from the other side, at the same distance
abbrev pub mirrored : Plane → Plane
mirrored a = record { nx = neg_ℤ a.nx; ny = neg_ℤ a.ny; nz = neg_ℤ a.nz; d = a.d }

-- three of the six walls of the cube, turned inward; the others are these mirrored
abbrev pub wall_x : Plane
wall_x = record { nx = pos 1; ny = pos 0; nz = pos 0; d = neg_ℤ extent }

abbrev pub wall_y : Plane
wall_y = record { nx = pos 0; ny = pos 1; nz = pos 0; d = neg_ℤ extent }

abbrev pub wall_z : Plane
wall_z = record { nx = pos 0; ny = pos 0; nz = pos 1; d = neg_ℤ extent }

-- the six walls, turned inward: the cell of these is the cube
abbrev pub cube_walls : List Plane
cube_walls = wall_x ∷ wall_y ∷ wall_z ∷ mirrored wall_x ∷ mirrored wall_y ∷ mirrored wall_z ∷ []

-- between the cube's two walls across one axis, or on one of them
pub record IsUpToExtent (coordinate w : ℤ) : Type 0 where
  pub above : neg_ℤ (extent *ℤ w) ≤ℤ coordinate
  pub below : coordinate ≤ℤ (extent *ℤ w)

-- a point of the cube or of its walls
pub record IsInClosedCube (p : Point) : Type 0 where
  pub weight : pos 0 <ℤ p.w
  pub x : IsUpToExtent p.x p.w
  pub y : IsUpToExtent p.y p.w
  pub z : IsUpToExtent p.z p.w

-- a point strictly inside the cube's face on a wall: on the wall, and in front of the other walls
pub record IsOnCubeFace (wall : Plane) (x : Point) : Type 0 where
  pub weight : pos 0 <ℤ x.w
  pub on : IsOn wall x
  pub inside : All (λ other. other ≢ wall → IsInFront other x) cube_walls
