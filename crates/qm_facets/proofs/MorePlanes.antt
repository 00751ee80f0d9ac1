-- Cells of several planes, one after another; and facets by their corners.
use Rattle.std.proofs.Common.{◌≡◌, Bool, true, false, pos, Option, Some, None, List, [], ◌∷◌, ◌++◌, IsTrue, ◌↔◌, refl, arith}
use Rattle.std.specs.Prelude.{is_some}
use Rattle.std.specs.Bool.{MatchBool}
use Rattle.std.proofs.lemmas.List.Elements.{All-push}
use Rattle.qm_lists.proofs.Elements.{All-first_part, All-last_part}
use Rattle.qm_numbers.proofs.Signs.{by_least}
use Rattle.qm_space.specs.Plane.{Plane, value, IsInFront}
use Rattle.qm_space.specs.Cell.{HasPoint}
use Rattle.qm_convex.specs.Winding.{Winding, corner_at, IsConvex}
use Rattle.qm_convex.specs.Sides.{HasSomeInFront, HasNoneInFront, HasCornerInFront}
use Rattle.qm_convex.specs.inner.Facets.{Facet}
use Rattle.qm_convex.proofs.Central.{none_in_front, some_in_front}
use Rattle.qm_facets.specs.Body.{IsBody, IsBodyOrNone, with_plane, HasFacetInFront, HasNoFacetInFront}
use Rattle.qm_facets.proofs.Bodies.{some_in_front as some_ahead, nothing_in_front}

-- where the first planes leave nothing, all leave nothing
pub none_of_more : (done rest : List Plane) (h : Plane) → (HasPoint (done ++ h ∷ []) → ⊥) → HasPoint (done ++ h ∷ rest) → ⊥
none_of_more done rest h never some = never (record {
  point = some.point;
  in_cube = some.in_cube;
  in_cell = All-push (λ g. IsInFront g some.point) done h (All-first_part (λ g. IsInFront g some.point) done (h ∷ rest) some.in_cell)
      (All-last_part (λ g. IsInFront g some.point) done (h ∷ rest) some.in_cell 0 h (omega arith));
})

-- ---- facets

-- a polygon has a point in front of a plane where it has a corner there
pub by_corners : (some : Bool) (v : Winding) (g : Plane) → IsConvex v → IsTrue some ↔ HasCornerInFront v g → MatchBool some (HasSomeInFront v g) (HasNoneInFront v g)
by_corners true v g convex is = (some_in_front v g convex).1 (is.0 refl)
by_corners false v g convex is = (none_in_front v g convex).1
    (λ i within. by_least (pos 0) (value g (corner_at v i)) (λ front. let so : false ≡ true = is.1 (i, within, front) in absurd cc) (λ not. not))

-- facets that have none in front, and one more
pub none_more : (h : Plane) (facets : List Facet) (found : Facet) → HasNoFacetInFront h facets → HasNoneInFront found.winding h → HasNoFacetInFront h (facets ++ found ∷ [])
none_more h facets found have one = All-push (λ (f : Facet). HasNoneInFront f.winding h) facets found have one

-- ---- the body of several planes, if there is one

pub some_or_none : (cell : List Plane) (found : Option (List Facet)) → IsBodyOrNone cell found → IsTrue (is_some found) ↔ HasPoint cell
some_or_none cell None never = ((λ so. absurd cc), (λ some. absurd (never some)))
some_or_none cell (Some facets) body = ((λ so. body.has_point), (λ some. refl))

-- whether a body has a point in front of a plane, by its facets
pub point_by_facets : (ahead : Bool) (cell : List Plane) (facets : List Facet) (h : Plane) → MatchBool ahead (HasFacetInFront h facets) (HasNoFacetInFront h facets) → IsBody cell facets → IsTrue ahead ↔ HasPoint (with_plane cell h)
point_by_facets true cell facets h has body = ((λ so. some_ahead cell facets body h has), (λ some. refl))
point_by_facets false cell facets h has body = ((λ so. absurd cc), (λ some. absurd (nothing_in_front cell facets body h has some)))
