use Rattle.std.specs.Prelude.{pos, ◌+ℤ◌, ◌≤ℤ◌, ◌⊎◌, List, [], ◌∷◌}
use Rattle.qm_space.specs.Plane.{Plane}
use Rattle.qm_space.specs.Cuboid.{Cuboid}
use Rattle.qm_convex.specs.inner.Parallelogram.{LeaveRoom, cuboid_between}
use Rattle.qm_wind.specs.declared.axial_cell.Opposites.{Opposites}
use Rattle.qm_wind.specs.declared.axial_cell.AxialCell.{AxialCell}

-- the six planes of a cell, in the order of the cube's walls
abbrev pub bounds_of : AxialCell → List Plane
bounds_of r = r.x.near ∷ r.y.near ∷ r.z.near ∷ r.x.far ∷ r.y.far ∷ r.z.far ∷ []

-- each pair leaves room
pub record IsOpen (r : AxialCell) : Type 0 where
  pub x : LeaveRoom r.x.near r.x.far
  pub y : LeaveRoom r.y.near r.y.far
  pub z : LeaveRoom r.z.near r.z.far

-- a pair leaves none
abbrev pub LeaveNone : Opposites → Type 0
LeaveNone pair = pos 0 ≤ℤ (pair.near.d +ℤ pair.far.d)

-- some pair leaves none
abbrev pub IsShut : AxialCell → Type 0
IsShut r = LeaveNone r.x ⊎ (LeaveNone r.y ⊎ LeaveNone r.z)

-- the cuboid of its distances
abbrev pub axial_cuboid : AxialCell → Cuboid
axial_cuboid r = cuboid_between r.x.near r.y.near r.z.near r.x.far r.y.far r.z.far
