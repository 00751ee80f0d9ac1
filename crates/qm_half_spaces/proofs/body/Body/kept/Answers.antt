use Rattle.std.proofs.Common.{List, subst, ◌∙◌}
use Rattle.std.proofs.lemmas.Bool.{MatchBool-at_false}
use Rattle.qm_space.specs.Plane.{Plane, flipped}
use Rattle.qm_space.specs.Reduced.{IsReduced}
use Rattle.qm_convex.specs.inner.Facets.{Facet}
use Rattle.qm_facets.specs.Body.{HasFacetInFront, HasNoFacetInFront}
use Rattle.qm_facets.proofs.Bodies.{whole_in_front, nothing_in_front}
use Rattle.qm_half_spaces.proofs.body.Body.kept.Goals as goal

pub returns-then-not-has_facet_in_front : goal.returns-then-not-has_facet_in_front
returns-then-not-has_facet_in_front c = λ cell is.
    whole_in_front cell c.args.self is c.args.plane.now (subst IsReduced c.plane.view_is c.plane.invariant).normal
    (subst (λ (facets : List Facet). HasNoFacetInFront (flipped c.args.plane.now) facets) (c.deref.ensures.value ∙ c.self.view_is)
    (subst (λ (g : Plane). HasNoFacetInFront g c.deref.result.now) c.flipped.ensures
    (MatchBool-at_false (HasFacetInFront c.flipped.result c.deref.result.now) (HasNoFacetInFront c.flipped.result c.deref.result.now) c.if-not-has_facet_in_front.true c.has_facet_in_front.ensures)))

pub returns-then-not-has_facet_in_front-2 : goal.returns-then-not-has_facet_in_front-2
returns-then-not-has_facet_in_front-2 c = λ cell is.
    nothing_in_front cell c.args.self is c.args.plane.now
    (subst (λ (facets : List Facet). HasNoFacetInFront c.args.plane.now facets) (c.deref-2.ensures.value ∙ c.self.view_is)
    (MatchBool-at_false (HasFacetInFront c.args.plane.now c.deref-2.result.now) (HasNoFacetInFront c.args.plane.now c.deref-2.result.now) c.if-not-has_facet_in_front-2.true c.has_facet_in_front-2.ensures))
