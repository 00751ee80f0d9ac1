use Rattle.std.proofs.Common.{◌∙◌, sym, ap, subst, arith}
use Rattle.std.proofs.lemmas.Result.{IfOk-weaker}
use Rattle.qm_convex.specs.Winding.{IsConvex}
use Rattle.qm_convex.specs.Rotation.{place_after}
use Rattle.qm_convex.specs.Cut.{IsPartInFront}
use Rattle.qm_convex.proofs.Cutting.{cut_is_part}
use Rattle.qm_wind.proofs.Polygons.{view_length}
use Rattle.qm_wind.proofs.Clips.{behind_of_back, run_start_below, run_end_below, run_ends_differ, front_run}
use Rattle.qm_wind.proofs.polygon.Polygon.part_in_front_of.Goals as goal

pub steps_between-count-requires-clause-from_in_range :
    goal.steps_between-count-requires-clause-from_in_range
steps_between-count-requires-clause-from_in_range c =
    let e = view_length _ _ c.self.view_is in
    let n = c.len.ensures.value in
    let behind = behind_of_back c.args.self.now c.args.plane.now c.requires.across.back in
    let l = run_start_below c.args.self.now c.args.plane.now c.args.run.now (subst IsConvex c.self.view_is c.self.invariant) c.requires.run c.requires.across.front behind in
    omega arith

pub steps_between-count-requires-clause-to_in_range :
    goal.steps_between-count-requires-clause-to_in_range
steps_between-count-requires-clause-to_in_range c =
    let e = view_length _ _ c.self.view_is in
    let n = c.len.ensures.value in
    let behind = behind_of_back c.args.self.now c.args.plane.now c.requires.across.back in
    let l = run_end_below c.args.self.now c.args.plane.now c.args.run.now (subst IsConvex c.self.view_is c.self.invariant) c.requires.run c.requires.across.front behind in
    omega arith

pub steps_between-count-requires-clause-different :
    goal.steps_between-count-requires-clause-different
steps_between-count-requires-clause-different c =
    run_ends_differ c.args.self.now c.args.plane.now c.args.run.now (subst IsConvex c.self.view_is c.self.invariant) c.requires.run c.requires.across.front (behind_of_back c.args.self.now c.args.plane.now c.requires.across.back)

pub cut-requires-clause-run : goal.cut-requires-clause-run
cut-requires-clause-run c =
    let e = view_length _ _ c.self.view_is in
    let n = c.len.ensures.value in
    let l = c.steps_between-count.ensures.below in
    front_run c.args.self.now c.args.plane.now c.args.run.now (subst IsConvex c.self.view_is c.self.invariant) c.requires.run c.requires.across.front (behind_of_back c.args.self.now c.args.plane.now c.requires.across.back)
    c.steps_between-count.result (omega arith)
    (ap (λ k. place_after k c.args.run.now.start c.steps_between-count.result) (sym e ∙ sym n) ∙ c.steps_between-count.ensures.value)

pub cut-requires-clause-behind : goal.cut-requires-clause-behind
cut-requires-clause-behind c = behind_of_back c.args.self.now c.args.plane.now c.requires.across.back

pub returns-clause-part : goal.returns-clause-part
returns-clause-part c =
    IfOk-weaker c.cut.result _ (λ w. IsPartInFront w c.args.self.now c.args.plane.now)
    (λ w is. subst (λ u. IsPartInFront u c.args.self.now c.args.plane.now) (sym is)
    (cut_is_part c.args.self.now c.args.plane.now c.args.run.now.start c.steps_between-count.result (subst IsConvex c.self.view_is c.self.invariant) (cut-requires-clause-run c.before) (behind_of_back c.args.self.now c.args.plane.now c.requires.across.back)))
    c.cut.ensures.cut
