use Rattle.std.specs.Prelude.{List, All}
use Rattle.qm_space.specs.Point.{Point, IsInCube}
use Rattle.qm_space.specs.Plane.{Plane, IsInFront}

-- A cell is an open convex part of space, given by planes that are turned towards it. The inside of a solid is one; a
-- polygon is what a cell has of its plane, and a leaf what a cell has of the cube.

-- a point of the cell: strictly in front of each of its planes
abbrev pub IsInCell : List Plane → Point → Type 0
IsInCell cell p = All (λ h. IsInFront h p) cell

-- some point of the cube lies in the cell
pub record HasPoint (cell : List Plane) : Type 0 where
  pub point : Point
  pub in_cube : IsInCube point
  pub in_cell : IsInCell cell point
