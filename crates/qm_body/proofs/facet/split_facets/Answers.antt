use Rattle.std.proofs.Common.{List, ◌∷◌, [], ◌++◌, refl, sym, ◌∙◌, subst, arith}
use Rattle.std.proofs.lemmas.Grind.{common_steps}
use Rattle.qm_lists.proofs.Taken.{taken_none, taken_more, taken_all}
use Rattle.qm_space.specs.Plane.{flipped}
use Rattle.qm_convex.specs.inner.Facets.{Facet, AreCut, none}
use Rattle.qm_body.proofs.CutFacets.{cut_append}
use Rattle.qm_body.proofs.facet.split_facets.Goals as goal

pub loop-facet-init : goal.loop-facet-init
loop-facet-init c = record {
  taken = taken_none _ _ _ refl (grind (arith, common_steps));
  front = subst (λ (fs : List Facet). AreCut c.args.plane.now [] fs) (sym c.new-front.ensures.items) none;
  back = subst (λ (fs : List Facet). AreCut (flipped c.args.plane.now) [] fs) (sym c.new-back.ensures.items) none;
}

pub loop-facet-preserved : goal.loop-facet-preserved
loop-facet-preserved c =
    let front = c.in_ok-split_facet.ensures.front in
    let back = c.in_ok-split_facet.ensures.back in
    record {
      taken = taken_more _ _ _ _ _ _ c.in-Some.facet c.loop-facet.invariant.taken c.in-Some.ensures.steps.0 c.in-Some.ensures.steps.1;
      front = subst (λ (fs : List Facet). AreCut c.args.plane.now (c.loop-facet.yielded ++ c.in-Some.facet ∷ []) fs) (sym front.added)
          (cut_append c.args.plane.now c.loop-facet.yielded c.loop-facet.front.items c.in-Some.facet front.left c.loop-facet.invariant.front front.cut);
      back = subst (λ (fs : List Facet). AreCut (flipped c.args.plane.now) (c.loop-facet.yielded ++ c.in-Some.facet ∷ []) fs) (sym back.added)
          (cut_append (flipped c.args.plane.now) c.loop-facet.yielded c.loop-facet.back.items c.in-Some.facet back.left c.loop-facet.invariant.back back.cut);
    }

pub returns-clause-front : goal.returns-clause-front
returns-clause-front c =
    subst (λ (fs : List Facet). AreCut c.args.plane.now fs c.loop-facet.front.items)
    (taken_all _ _ _ _ c.loop-facet.invariant.taken c.in-None.ensures.steps.0 ∙ c.into_iter-facet-iterator.ensures.into_iter_gives.0) c.loop-facet.invariant.front

pub returns-clause-back : goal.returns-clause-back
returns-clause-back c =
    subst (λ (fs : List Facet). AreCut (flipped c.args.plane.now) fs c.loop-facet.back.items)
    (taken_all _ _ _ _ c.loop-facet.invariant.taken c.in-None.ensures.steps.0 ∙ c.into_iter-facet-iterator.ensures.into_iter_gives.0) c.loop-facet.invariant.back
