use Rattle.std.specs.Prelude.{pos, ◌<ℤ◌, ◌⊎◌, List, [], ◌∷◌, All, ◌↔◌}
use Rattle.qm_space.specs.Point.{Point}
use Rattle.qm_space.specs.Plane.{Plane, IsOn, IsInFront}
use Rattle.qm_space.specs.Multiple.{HasSameSides}
use Rattle.qm_convex.specs.Winding.{Winding, IsInRegion, IsConvex}
use Rattle.qm_convex.specs.Sides.{HasNoneInFront}
use Rattle.qm_convex.specs.Cut.{IsPartInFront}

-- A facet of a cell is what the border of the cell has on one of the cell's planes.

-- a point of the facet on the plane h: in front of each plane of the cell that has other sides
pub record IsOnFacet (cell : List Plane) (h : Plane) (x : Point) : Type 0 where
  pub weight : pos 0 <ℤ x.w
  pub on : IsOn h x
  pub inside : All (λ g. HasSameSides g h ⊎ IsInFront g x) cell

-- a plane, turned to the cell, and the polygon of its facet
pub record Facet : Type 0 where
  pub inward : Plane
  pub winding : Winding

abbrev pub inward_of : Facet → Plane
inward_of found = found.inward

-- a polygon that is seen from inside, as a facet
abbrev pub facing_in : Winding → Facet
facing_in face = record { inward = face.plane; winding = face }

pub record IsFacet (cell : List Plane) (facet : Facet) : Type 0 where
  pub convex : IsConvex facet.winding
  pub points : (x : Point) → IsInRegion facet.winding x ↔ IsOnFacet cell facet.inward x

-- a plane on which the cell has no facet
abbrev pub HasNoFacet : List Plane → Plane → Type 0
HasNoFacet cell h = (x : Point) → IsOnFacet cell h x → ⊥

-- the facets of a cell on some planes, in the order of the planes
pub data AreFacetsOn (cell : List Plane) : List Plane → List Facet → Type 0 where
  none : AreFacetsOn cell [] []
  facet : {found : Facet} {planes : List Plane} {facets : List Facet} →
      IsFacet cell found → AreFacetsOn cell planes facets → AreFacetsOn cell (found.inward ∷ planes) (found ∷ facets)
  hidden : {h : Plane} {planes : List Plane} {facets : List Facet} →
      HasNoFacet cell h → AreFacetsOn cell planes facets → AreFacetsOn cell (h ∷ planes) facets

-- the facets of a cell
abbrev pub AreFacets : List Plane → List Facet → Type 0
AreFacets cell facets = AreFacetsOn cell cell facets

-- what some facets leave in front of a plane, in their order
pub data AreCut (h : Plane) : List Facet → List Facet → Type 0 where
  none : AreCut h [] []
  left : {inward : Plane} {old new : Winding} {facets rest : List Facet} →
      IsPartInFront new old h → AreCut h facets rest →
      AreCut h (record { inward = inward; winding = old } ∷ facets) (record { inward = inward; winding = new } ∷ rest)
  gone : {found : Facet} {facets rest : List Facet} →
      HasNoneInFront found.winding h → AreCut h facets rest → AreCut h (found ∷ facets) rest
