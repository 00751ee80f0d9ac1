use Rattle.std.proofs.Common.{List, subst, ◌∙◌}
use Rattle.std.specs.Bool.{MatchBool}
use Rattle.qm_convex.specs.inner.Facets.{Facet}
use Rattle.qm_facets.specs.Body.{HasFacetInFront, HasNoFacetInFront}
use Rattle.qm_facets.proofs.MorePlanes.{point_by_facets}
use Rattle.qm_half_spaces.proofs.body.Body.has_point_in_front.Goals as goal

pub returns : goal.returns
returns c = λ cell is.
    point_by_facets c.has_facet_in_front.result cell c.args.self.now c.args.plane.now
    (subst (λ (facets : List Facet). MatchBool c.has_facet_in_front.result (HasFacetInFront c.args.plane.now facets) (HasNoFacetInFront c.args.plane.now facets)) (c.deref.ensures.value ∙ c.self.view_is) c.has_facet_in_front.ensures)
    is
