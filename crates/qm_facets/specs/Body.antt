use Rattle.std.specs.Prelude.{List, [], ◌∷◌, ◌++◌, Option, MatchOption, All, Contains, ◌↔◌}
use Rattle.qm_space.specs.Point.{Point, IsInCube}
use Rattle.qm_space.specs.Plane.{Plane}
use Rattle.qm_space.specs.Cell.{IsInCell, HasPoint}
use Rattle.qm_space.specs.Cube.{cube_walls}
use Rattle.qm_convex.specs.Sides.{HasNoneInFront, HasSomeInFront}
use Rattle.qm_convex.specs.inner.Facets.{Facet, AreFacets}

-- A body is what a cell has of the cube, if it has any point there, as the list of its facets.

-- these are the facets of what the cell has of the cube: those of some planes and the cube's walls, in front of all of which
-- are exactly the points of the cell in the cube
pub record IsBody (cell : List Plane) (facets : List Facet) : Type 0 where
  pub planes : List Plane
  pub are_facets : AreFacets (cube_walls ++ planes) facets
  pub points : (x : Point) → IsInCell (cube_walls ++ planes) x ↔ (IsInCube x × IsInCell cell x)
  pub has_point : HasPoint cell

-- they are those of some cell
abbrev pub IsSomeBody : List Facet → Type 0
IsSomeBody facets = (cell : List Plane) × IsBody cell facets

-- the cell with one plane more
abbrev pub with_plane : List Plane → Plane → List Plane
with_plane cell h = cell ++ h ∷ []

-- what a cell has of the cube, or nothing where it has no point there
abbrev pub IsBodyOrNone : List Plane → Option (List Facet) → Type 0
IsBodyOrNone cell found = MatchOption found (HasPoint cell → ⊥) (λ facets. IsBody cell facets)

-- some facet has a point in front of a plane
pub record HasFacetInFront (h : Plane) (facets : List Facet) : Type 0 where
  pub found : Facet
  pub listed : Contains facets found
  pub some : HasSomeInFront found.winding h

-- no facet has one
abbrev pub HasNoFacetInFront : Plane → List Facet → Type 0
HasNoFacetInFront h facets = All (λ found. HasNoneInFront found.winding h) facets
