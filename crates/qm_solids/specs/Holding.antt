use Rattle.std.specs.Prelude.{List, All}
use Rattle.qm_space.specs.Point.{Point, IsInCube}
use Rattle.qm_space.specs.Plane.{Plane, IsNotInFront}
use Rattle.qm_space.specs.Cell.{IsInCell}
use Rattle.qm_solids.specs.Solid.{Solid, inward}

-- strictly behind each outward plane
abbrev pub IsInside : Solid → Point → Type 0
IsInside solid x = IsInCell (inward solid) x

-- behind each of these planes or on it
abbrev pub IsInFrontOfNone : List Plane → Point → Type 0
IsInFrontOfNone planes x = All (λ h. IsNotInFront h x) planes

-- a solid is full where some point of the cube is strictly inside it
pub record IsFull (solid : Solid) : Type 0 where
  pub within : Point
  pub in_cube : IsInCube within
  pub inside : IsInside solid within

-- a full solid holds the points that are in front of none of its outward planes, also those outside the cube, of which
-- no clause speaks; one that is not full holds none. Points have w above 0: each clause takes `IsInCube`, which says so.
pub record Holds (solid : Solid) (x : Point) : Type 0 where
  pub full : IsFull solid
  pub not_in_front : IsInFrontOfNone solid.outward x
