-- The facets of a half of a cell: what the plane leaves of the cell's facets, and the part of the plane in the cell.
use Rattle.std.proofs.Common.{ℕ, ◌<◌, Bool, List, [], ◌∷◌, ◌++◌, get_or, length, refl, arith, ◌⊎◌, inl, inr, ⊎_elim, ◌↔◌, Some}
use Rattle.std.proofs.lemmas.List.Elements.{All-push, All-pop, All-head, All-tail}
use Rattle.qm_space.specs.Point.{Point}
use Rattle.qm_space.specs.Plane.{Plane, IsOn, IsInFront, IsBehind}
use Rattle.qm_space.specs.Turned.{turned}
use Rattle.qm_space.specs.Cell.{IsInCell}
use Rattle.qm_space.specs.Multiple.{HasSameSides}
use Rattle.qm_numbers.proofs.IntegerProducts.{linear}
use Rattle.qm_space.proofs.SameSides.{same_in_front, same_sides_itself, same_sides_back}
use Rattle.qm_space.proofs.TurnedPlanes.{turned_on}
use Rattle.qm_space.proofs.Crossings.{through, crossing_on, crossing_in_cell}
use Rattle.qm_convex.specs.Winding.{Winding, IsInRegion, IsConvex}
use Rattle.qm_convex.specs.Cut.{IsPartInFront}
use Rattle.qm_convex.specs.Sides.{HasNoneInFront}
use Rattle.qm_convex.specs.inner.Facets.{IsOnFacet, HasNoFacet, Facet, IsFacet, AreFacetsOn, AreFacets, none, facet, hidden, AreCut, left, gone}
use Rattle.qm_convex.specs.Section.{IsSection}
use Rattle.qm_convex.proofs.Central.{has_a_point}
use Rattle.qm_convex.proofs.ImpliedPlanes.{beside_of_cell}

-- facets of one cell on planes of two lists
pub facets_append : (cell first second : List Plane) (facets others : List Facet) → AreFacetsOn cell first facets → AreFacetsOn cell second others → AreFacetsOn cell (first ++ second) (facets ++ others)
facets_append cell first second facets others none more = more
facets_append cell first second facets others (facet {planes = rest} {facets = rest_facets} is have) more = facet is (facets_append cell rest second rest_facets others have more)
facets_append cell first second facets others (hidden {planes = rest} never have) more = hidden never (facets_append cell rest second facets others have more)

-- ---- a cell, and a plane that has a point of the cell on it

module _ (cell : List Plane) (h : Plane) (s : Point) (on_s : IsOn h s) (in_cell : IsInCell cell s) where
  abbrev half : List Plane
  half = cell ++ h ∷ []

  abbrev Beside : Plane → Point → Plane → Type 0
  Beside q x g = HasSameSides g q ⊎ IsInFront g x

  -- it does not have the sides of a plane that has the point in front
  apart : (q : Plane) → IsInFront q s → HasSameSides h q → ⊥
  apart q front same = let f = same_in_front h q s same front in absurd (omega (arith, linear))

  -- on the other planes the half has the facets in front of the plane
  of_half : (q : Plane) (x : Point) → IsInFront q s → IsOnFacet half q x → IsOnFacet cell q x × IsInFront h x
  of_half q x front on_facet =
      let both = All-pop (Beside q x) half cell (Some h) refl on_facet.inside in
      (record { weight = on_facet.weight; on = on_facet.on; inside = both.0 }, ⊎_elim (λ same. absurd (apart q front same)) (λ ahead. ahead) both.1)

  to_half : (q : Plane) (x : Point) → IsOnFacet cell q x → IsInFront h x → IsOnFacet half q x
  to_half q x on_facet ahead = record { weight = on_facet.weight; on = on_facet.on; inside = All-push (Beside q x) cell h on_facet.inside (inr ahead) }

  left_of_facet : (found : Facet) (new : Winding) → IsInFront found.inward s → IsFacet cell found → IsPartInFront new found.winding h → IsFacet half (record { inward = found.inward; winding = new })
  left_of_facet found new front is part = record {
    convex = part.convex;
    points = λ x. (
      (λ r. let q = (part.points x).0 r in to_half found.inward x ((is.points x).0 q.0) q.1),
      (λ r. let q = of_half found.inward x front r in (part.points x).1 ((is.points x).1 q.0, q.1)),
    );
  }

  hidden_in_half : (q : Plane) → IsInFront q s → HasNoFacet cell q → HasNoFacet half q
  hidden_in_half q front never x on_facet = never x (of_half q x front on_facet).0

  gone_in_half : (found : Facet) → IsInFront found.inward s → IsFacet cell found → HasNoneInFront found.winding h → HasNoFacet half found.inward
  gone_in_half found front is none_ahead x on_facet =
      let q = of_half found.inward x front on_facet in
      let n = none_ahead x ((is.points x).1 q.0) in
      let f = q.1 in
      absurd (omega (arith, linear))

  -- what the plane leaves of the facets of the cell
  left_facets : (planes : List Plane) (facets rest : List Facet) → IsInCell planes s → AreFacetsOn cell planes facets → AreCut h facets rest → AreFacetsOn half planes rest
  left_facets planes facets rest inside none none = none
  left_facets planes facets rest inside (hidden {h = q} {planes = more} never have) cut =
      hidden (hidden_in_half q (All-head (λ g. IsInFront g s) q more inside) never) (left_facets more facets rest (All-tail (λ g. IsInFront g s) q more inside) have cut)
  left_facets planes facets rest inside (facet {found = found} {planes = more} is have) (left {new = new} part cut) =
      facet (left_of_facet found new (All-head (λ g. IsInFront g s) found.inward more inside) is part) (left_facets more _ _ (All-tail (λ g. IsInFront g s) found.inward more inside) have cut)
  left_facets planes facets rest inside (facet {found = found} {planes = more} is have) (gone none_ahead cut) =
      hidden (gone_in_half found (All-head (λ g. IsInFront g s) found.inward more inside) is none_ahead) (left_facets more _ _ (All-tail (λ g. IsInFront g s) found.inward more inside) have cut)

  -- the part of the plane in the cell is the half's facet on it
  section_is_facet : (section : Winding) → IsConvex section → ((x : Point) → IsInRegion section x ↔ (IsOn h x × IsInCell cell x)) → IsFacet half (record { inward = h; winding = section })
  section_is_facet section convex points = record {
    convex = convex;
    points = λ x. (
      (λ r. let q = (points x).0 r in record { weight = r.weight; on = q.0; inside = All-push (Beside h x) cell h (beside_of_cell cell h x q.1) (inl (same_sides_itself h)) }),
      (λ r. (points x).1 (r.on, λ place d there. in_front x place d there ((All-pop (Beside h x) half cell (Some h) refl r.inside).0 place d there))),
    );
  }
    where
      in_front : (x : Point) (place : ℕ) (d : Plane) → place < length cell → HasSameSides (get_or cell place d) h ⊎ IsInFront (get_or cell place d) x → IsInFront (get_or cell place d) x
      in_front x place d there beside = ⊎_elim (λ same. absurd (apart (get_or cell place d) (in_cell place d there) (same_sides_back (get_or cell place d) h same))) (λ ahead. ahead) beside

-- a plane that has a polygon for its section, turned to one side
module _ (cell : List Plane) (h : Plane) (side : Bool) (section : Winding) (is : IsSection cell h section) where
  point : (p : Point) × IsInRegion section p
  point = has_a_point section is.convex

  in_section : IsOn h point.0 × IsInCell cell point.0
  in_section = (is.points point.0).0 point.1

  turned_point : IsOn (turned side h) point.0
  turned_point = (turned_on side h point.0).1 in_section.0

  -- the facets of the half on some planes that have the cell's points in front are what the plane leaves of the cell's
  pub left_of_side : (planes : List Plane) (facets rest : List Facet) → ((x : Point) → IsInCell cell x → IsInCell planes x) → AreFacetsOn cell planes facets → AreCut (turned side h) facets rest → AreFacetsOn (cell ++ turned side h ∷ []) planes rest
  left_of_side planes facets rest ahead are cut =
      left_facets cell (turned side h) point.0 turned_point in_section.1 planes facets rest (ahead point.0 in_section.1) are cut

  -- and its facet on the plane is the section
  pub section_facet : IsFacet (cell ++ turned side h ∷ []) (record { inward = turned side h; winding = section })
  section_facet =
      section_is_facet cell (turned side h) point.0 turned_point in_section.1 section is.convex
      (λ x. ((λ r. let q = (is.points x).0 r in ((turned_on side h x).1 q.0, q.1)), (λ q. (is.points x).1 ((turned_on side h x).0 q.0, q.1))))

  -- so these are all its facets
  pub facets_of_side : (facets rest : List Facet) → AreFacets cell facets → AreCut (turned side h) facets rest → AreFacets (cell ++ turned side h ∷ []) (rest ++ record { inward = turned side h; winding = section } ∷ [])
  facets_of_side facets rest are cut =
      facets_append (cell ++ turned side h ∷ []) cell (turned side h ∷ []) rest (record { inward = turned side h; winding = section } ∷ []) (left_of_side cell facets rest (λ x inside. inside) are cut) (facet section_facet none)

-- ---- sections

-- a plane with points of the cell on both sides holds a point of the cell
pub crosses_cell : (cell : List Plane) (h : Plane) (p q : Point) → IsInCell cell p → IsInFront h p → IsInCell cell q → IsBehind h q → (x : Point) × IsOn h x × IsInCell cell x
crosses_cell cell h p q in_p front in_q behind = (
  through h p q,
  crossing_on h p q front (omega (arith, linear)),
  crossing_in_cell h p q front (omega (arith, linear)) cell in_p in_q,
)
