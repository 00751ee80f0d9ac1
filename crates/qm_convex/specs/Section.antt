use Rattle.std.specs.Prelude.{◌≡◌, pos, ◌<ℤ◌, ◌≤ℤ◌, List, ◌↔◌}
use Rattle.std.specs.List.{AllZip}
use Rattle.qm_space.specs.Point.{Point}
use Rattle.qm_space.specs.Plane.{Plane, IsOn}
use Rattle.qm_space.specs.Cell.{IsInCell}
use Rattle.qm_space.specs.Cube.{cube_walls}
use Rattle.qm_convex.specs.Winding.{Winding, HasEdgesAmong, IsInRegion, IsConvex}

-- the polygon is the part of a plane in a cell
pub record IsSection (cell : List Plane) (h : Plane) (section : Winding) : Type 0 where
  pub convex : IsConvex section
  pub plane : section.plane ≡ h
  pub points : (x : Point) → IsInRegion section x ↔ (IsOn h x × IsInCell cell x)
  pub edges : HasEdgesAmong section cell

-- no point of a cell is on the plane
abbrev pub MissesCell : List Plane → Plane → Type 0
MissesCell cell h = (x : Point) → pos 0 <ℤ x.w → IsOn h x → IsInCell cell x → ⊥

-- the planes have one normal
pub record HasSameNormal (g h : Plane) : Type 0 where
  pub nx : g.nx ≡ h.nx
  pub ny : g.ny ≡ h.ny
  pub nz : g.nz ≡ h.nz

-- a plane with the normal of a wall of the cube, on the wall or further in
pub record IsAxialBound (bound wall : Plane) : Type 0 where
  pub normal : HasSameNormal bound wall
  pub inside : wall.d ≤ℤ bound.d

-- six such planes, in the order of the walls
abbrev pub AreAxialBounds : List Plane → Type 0
AreAxialBounds bounds = AllZip IsAxialBound bounds cube_walls
