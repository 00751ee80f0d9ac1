-- A cell with its bounds is parted by a plane.
use Rattle.std.specs.Prelude.{◌≡◌, ℕ, ◌<◌, pos, ◌<ℤ◌, ◌↔◌, List, length, get_or, take, All, Contains}
use Rattle.qm_space.specs.Point.{Point, IsInCube}
use Rattle.qm_space.specs.Plane.{Plane, IsOn}
use Rattle.qm_space.specs.Cell.{IsInCell}
use Rattle.qm_convex.specs.Winding.{Winding, IsInRegion}
use Rattle.qm_convex.specs.inner.Facets.{AreCut}
use Rattle.qm_partition.specs.declared.node.Child.{Child}
use Rattle.qm_convex.specs.Section.{HasSameNormal, AreAxialBounds}
use Rattle.qm_contacts.specs.inner.Bounds.{IsBoundAdded}
use Rattle.qm_contacts.specs.inner.Due.{DueCell}

-- the cell of some planes, of which some bound it, lies inside the cube, and the plane has a point of it
pub record CrossesCell (cell : List Plane) (due : DueCell) (h : Plane) : Type 0 where
  pub bounds : (x : Point) → pos 0 <ℤ x.w → IsInCell cell x ↔ IsInCell due.bounds x
  pub among : All (Contains cell) due.bounds
  pub in_cube : (x : Point) → IsInCell cell x → IsInCube x
  pub point : Point
  pub on : IsOn h point
  pub inside : IsInCell cell point

-- a polygon has a point in front of all these planes
abbrev pub HasPointBefore : Winding → List Plane → Type 0
HasPointBefore winding bounds = (x : Point) × IsInRegion winding x × IsInCell bounds x

-- the plane at a place has the normal of another
pub record IsPlaceOfNormal (h : Plane) (bounds : List Plane) (place : ℕ) : Type 0 where
  pub within : place < length bounds
  pub same : HasSameNormal (get_or bounds place h) h

-- no plane has that normal
abbrev pub HasNoneOfNormal : Plane → List Plane → Type 0
HasNoneOfNormal h bounds = All (λ g. HasSameNormal g h → ⊥) bounds

-- the first six bounds of a cell are those across the axes
abbrev pub BeginAxially : List Plane → Type 0
BeginAxially bounds = AreAxialBounds (take 6 bounds)

-- what a cell is in front of a plane
pub record IsHalf (whole : DueCell) (h : Plane) (child : Child) (half : DueCell) : Type 0 where
  pub child_is : half.child ≡ child
  pub bounds : IsBoundAdded h whole.bounds half.bounds
  pub walls : AreCut h whole.on_walls half.on_walls
