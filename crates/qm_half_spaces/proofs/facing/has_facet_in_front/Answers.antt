use Rattle.std.proofs.Common.{List, take, refl, sym, subst}
use Rattle.std.proofs.lemmas.Bool.{MatchBool-at_true, MatchBool-at_false}
use Rattle.qm_lists.proofs.Places.{take-read, Contains-read}
use Rattle.qm_convex.specs.Sides.{HasSomeInFront, HasNoneInFront}
use Rattle.qm_convex.specs.inner.Facets.{Facet}
use Rattle.qm_facets.specs.Body.{HasNoFacetInFront}
use Rattle.qm_facets.proofs.MorePlanes.{none_more}
use Rattle.qm_half_spaces.proofs.facing.has_facet_in_front.Goals as goal

pub returns-then-has_some_in_front : goal.returns-then-has_some_in_front
returns-then-has_some_in_front c = record {
  found = c.facet-item.result;
  listed = Contains-read c.args.facets.now c.loop-facet.facet-index c.facet-item.result c.loop-facet-test.true c.facet-item.is c.args.facets.now refl;
  some = MatchBool-at_true (HasSomeInFront c.facet-item.result.winding c.args.plane.now) (HasNoneInFront c.facet-item.result.winding c.args.plane.now) c.if-has_some_in_front.true c.has_some_in_front.ensures;
}

pub loop-facet-preserved : goal.loop-facet-preserved
loop-facet-preserved c =
    subst (λ (facets : List Facet). HasNoFacetInFront c.args.plane.now facets) (sym (take-read c.args.facets.now c.loop-facet.facet-index c.facet-item.result c.loop-facet-test.true c.facet-item.is))
    (none_more c.args.plane.now (take c.loop-facet.facet-index c.args.facets.now) c.facet-item.result c.loop-facet.invariant
    (MatchBool-at_false (HasSomeInFront c.facet-item.result.winding c.args.plane.now) (HasNoneInFront c.facet-item.result.winding c.args.plane.now) c.if-has_some_in_front.false c.has_some_in_front.ensures))
