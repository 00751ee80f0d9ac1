-- A body that a plane parts, and the section that both parts get.
use Rattle.std.specs.Prelude.{List, [], ◌∷◌, ◌++◌}
use Rattle.qm_space.specs.Plane.{Plane, flipped}
use Rattle.qm_space.specs.Cube.{cube_walls}
use Rattle.qm_convex.specs.Winding.{Winding}
use Rattle.qm_convex.specs.Section.{IsSection}
use Rattle.qm_convex.specs.inner.Facets.{Facet}
use Rattle.qm_facets.specs.Body.{IsBody, HasFacetInFront}

-- the plane has facets on both sides
pub record IsPartedBy (h : Plane) (facets : List Facet) : Type 0 where
  pub front : HasFacetInFront h facets
  pub behind : HasFacetInFront (flipped h) facets

-- the section of the body, whatever the cell of which it is the body
abbrev pub IsSectionOfBody : List Facet → Plane → Winding → Type 0
IsSectionOfBody facets h section = (cell : List Plane) → (body : IsBody cell facets) → IsSection (cube_walls ++ body.planes) h section

-- facets with the section as one more
abbrev pub with_section : List Facet → Plane → Winding → List Facet
with_section facets inward section = facets ++ record { inward = inward; winding = section } ∷ []
