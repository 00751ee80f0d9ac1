use Rattle.std.proofs.Common.{List, subst, ◌∙◌}
use Rattle.std.proofs.lemmas.Bool.{MatchBool-at_false}
use Rattle.qm_space.specs.Plane.{Plane, flipped}
use Rattle.qm_space.specs.Reduced.{IsReduced, HasNormal}
use Rattle.qm_convex.specs.inner.Facets.{Facet}
use Rattle.qm_facets.specs.Body.{HasFacetInFront, HasNoFacetInFront}
use Rattle.qm_facets.proofs.Bodies.{whole_in_front, whole_behind, nothing_in_front}
use Rattle.qm_half_spaces.proofs.body.Body.split.Goals as goal
use Rattle.qm_half_spaces.proofs.body.Body.split.Goals.{Then-not-has_facet_in_front, Then-not-has_facet_in_front-2}

none_behind : (c : Then-not-has_facet_in_front) → HasNoFacetInFront (flipped c.args.plane.now) c.args.self
none_behind c =
    let all = MatchBool-at_false (HasFacetInFront c.flipped.result c.deref.result.now) (HasNoFacetInFront c.flipped.result c.deref.result.now) c.if-not-has_facet_in_front.true c.has_facet_in_front.ensures in
    subst (λ (facets : List Facet). HasNoFacetInFront (flipped c.args.plane.now) facets) (c.deref.ensures.value ∙ c.self.view_is)
    (subst (λ (g : Plane). HasNoFacetInFront g c.deref.result.now) c.flipped.ensures all)

normal_of : (c : Then-not-has_facet_in_front) → HasNormal c.args.plane.now
normal_of c = (subst IsReduced c.plane.view_is c.plane.invariant).normal

none_ahead : (c : Then-not-has_facet_in_front-2) → HasNoFacetInFront c.args.plane.now c.args.self
none_ahead c =
    let all = MatchBool-at_false (HasFacetInFront c.args.plane.now c.deref-2.result.now) (HasNoFacetInFront c.args.plane.now c.deref-2.result.now) c.if-not-has_facet_in_front-2.true c.has_facet_in_front-2.ensures in
    subst (λ (facets : List Facet). HasNoFacetInFront c.args.plane.now facets) (c.deref-2.ensures.value ∙ c.self.view_is) all

pub returns-then-not-has_facet_in_front-clause-front : goal.returns-then-not-has_facet_in_front-clause-front
returns-then-not-has_facet_in_front-clause-front c = λ cell is.
    let at = (goal.at.returns-then-not-has_facet_in_front-clause-front c).Then-not-has_facet_in_front in
    whole_in_front cell c.args.self is c.args.plane.now (normal_of at) (none_behind at)

pub returns-then-not-has_facet_in_front-clause-back : goal.returns-then-not-has_facet_in_front-clause-back
returns-then-not-has_facet_in_front-clause-back c = λ cell is.
    nothing_in_front cell c.args.self is (flipped c.args.plane.now) (none_behind (goal.at.returns-then-not-has_facet_in_front-clause-back c).Then-not-has_facet_in_front)

pub returns-then-not-has_facet_in_front-2-clause-front : goal.returns-then-not-has_facet_in_front-2-clause-front
returns-then-not-has_facet_in_front-2-clause-front c = λ cell is.
    nothing_in_front cell c.args.self is c.args.plane.now (none_ahead (goal.at.returns-then-not-has_facet_in_front-2-clause-front c).Then-not-has_facet_in_front-2)

pub returns-then-not-has_facet_in_front-2-clause-back : goal.returns-then-not-has_facet_in_front-2-clause-back
returns-then-not-has_facet_in_front-2-clause-back c = λ cell is.
    let normal = (subst IsReduced c.plane.view_is c.plane.invariant).normal in
    whole_behind cell c.args.self is c.args.plane.now normal (none_ahead (goal.at.returns-then-not-has_facet_in_front-2-clause-back c).Then-not-has_facet_in_front-2)
