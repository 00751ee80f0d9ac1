use Rattle.std.proofs.Common.{List, ◌∷◌, [], ◌++◌, refl, sym, ◌∙◌, subst, arith}
use Rattle.std.proofs.lemmas.Grind.{common_steps}
use Rattle.qm_lists.proofs.Taken.{taken_none, taken_more, taken_all}
use Rattle.qm_convex.specs.inner.Facets.{Facet, AreCut, none}
use Rattle.qm_body.proofs.CutFacets.{cut_append}
use Rattle.qm_half_spaces.proofs.cutting.cut_facets.Goals as goal

pub loop-facet-init : goal.loop-facet-init
loop-facet-init c = record {
  taken = taken_none _ _ _ refl (grind (arith, common_steps));
  cut = subst (λ (fs : List Facet). AreCut c.args.plane.now [] fs) (sym c.in_ok-left.ensures.items) none;
}

pub loop-facet-preserved : goal.loop-facet-preserved
loop-facet-preserved c =
    let one = c.in_ok-cut_facet.ensures in
    record {
      taken = taken_more _ _ _ _ _ _ c.in-Some.facet c.loop-facet.invariant.taken c.in-Some.ensures.steps.0 c.in-Some.ensures.steps.1;
      cut = subst (λ (fs : List Facet). AreCut c.args.plane.now (c.loop-facet.yielded ++ c.in-Some.facet ∷ []) fs) (sym one.added)
          (cut_append c.args.plane.now c.loop-facet.yielded c.loop-facet.left.items c.in-Some.facet one.left c.loop-facet.invariant.cut one.cut);
    }

pub returns : goal.returns
returns c =
    subst (λ (fs : List Facet). AreCut c.args.plane.now fs c.loop-facet.left.items)
    (taken_all _ _ _ _ c.loop-facet.invariant.taken c.in-None.ensures.steps.0 ∙ c.into_iter-facet-iterator.ensures.into_iter_gives.0) c.loop-facet.invariant.cut
