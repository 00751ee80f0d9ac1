use Rattle.std.proofs.Common.{◌≡◌, ◌∙◌, ◌+◌, ◌++◌, [], ◌∷◌, length, take, sym, ap, ap₂, subst, arith}
use Rattle.qm_convex.specs.Winding.{IsConvex}
use Rattle.qm_convex.specs.Rotation.{rotated_list, place_after}
use Rattle.qm_convex.specs.Cut.{IsPartInFront}
use Rattle.qm_convex.specs.inner.FrontRun.{IsFrontRun, cut}
use Rattle.qm_convex.proofs.Cutting.{cut_convex, cut_is_part}
use Rattle.qm_wind.proofs.Polygons.{cut_view, view_length}
use Rattle.qm_wind.proofs.Clips.{behind_of_back, run_start_below, run_end_below, run_ends_differ, front_run}
use Rattle.qm_wind.proofs.polygon.Polygon.cut_down.Goals as goal
use Rattle.qm_wind.proofs.polygon.Polygon.cut_down.Goals.{After-steps_between-count, After-push_reserved}

pub steps_between-count-requires-clause-from_in_range :
    goal.steps_between-count-requires-clause-from_in_range
steps_between-count-requires-clause-from_in_range c =
    let e = view_length _ _ c.self.view_is in
    let n = c.len.ensures.value in
    let behind = behind_of_back c.args.self.now c.args.plane.now c.requires.across.back in
    let l = run_start_below c.args.self.now c.args.plane.now c.args.run.now (subst IsConvex c.self.view_is c.self.invariant) c.requires.run c.requires.across.front behind in
    omega arith

pub steps_between-count-requires-clause-to_in_range :
    goal.steps_between-count-requires-clause-to_in_range
steps_between-count-requires-clause-to_in_range c =
    let e = view_length _ _ c.self.view_is in
    let n = c.len.ensures.value in
    let behind = behind_of_back c.args.self.now c.args.plane.now c.requires.across.back in
    let l = run_end_below c.args.self.now c.args.plane.now c.args.run.now (subst IsConvex c.self.view_is c.self.invariant) c.requires.run c.requires.across.front behind in
    omega arith

pub steps_between-count-requires-clause-different :
    goal.steps_between-count-requires-clause-different
steps_between-count-requires-clause-different c =
    run_ends_differ c.args.self.now c.args.plane.now c.args.run.now (subst IsConvex c.self.view_is c.self.invariant) c.requires.run c.requires.across.front (behind_of_back c.args.self.now c.args.plane.now c.requires.across.back)

pub keep_arc-requires : goal.keep_arc-requires
keep_arc-requires c =
    let e = view_length _ _ c.self.view_is in
    let n = ap length c.reserve.ensures.items in
    let behind = behind_of_back c.args.self.now c.args.plane.now c.requires.across.back in
    let l = run_start_below c.args.self.now c.args.plane.now c.args.run.now (subst IsConvex c.self.view_is c.self.invariant) c.requires.run c.requires.across.front behind in
    (omega arith, omega arith)

-- the run of the corners in front
kept : (c : After-steps_between-count) → IsFrontRun c.args.self.now c.args.plane.now c.args.run.now.start c.steps_between-count.result
kept c =
    let e = view_length _ _ c.self.view_is in
    let n = c.len.ensures.value in
    let l = c.steps_between-count.ensures.below in
    front_run c.args.self.now c.args.plane.now c.args.run.now (subst IsConvex c.self.view_is c.self.invariant) c.requires.run c.requires.across.front (behind_of_back c.args.self.now c.args.plane.now c.requires.across.back)
    c.steps_between-count.result (omega arith)
    (ap (λ k. place_after k c.args.run.now.start c.steps_between-count.result) (sym e ∙ sym n) ∙ c.steps_between-count.ensures.value)

-- what it is seen as is the cut
view : (c : After-push_reserved) → record { plane = c.self.inside.plane; edges = c.push_reserved.new.self.items } ≡ cut c.args.self.now c.args.plane.now c.args.run.now.start c.steps_between-count.result
view c =
    cut_view _ c.args.self.now c.args.plane.now c.args.run.now.start c.steps_between-count.result _ c.self.view_is
    (c.push_reserved.ensures.items ∙ ap₂ (λ es g. es ++ g ∷ []) (c.keep_arc.ensures.items ∙ ap (λ es. take (c.steps_between-count.result + 1) (rotated_list c.args.run.now.start es)) c.reserve.ensures.items) c.plane.view_is)

pub invariant_of-self-2 : goal.invariant_of-self-2
invariant_of-self-2 c =
    subst IsConvex (sym (view (goal.at.invariant_of-self-2 c).After-push_reserved))
    (cut_convex c.args.self.now c.args.plane.now c.args.run.now.start c.steps_between-count.result (subst IsConvex c.self.view_is c.self.invariant) (kept (goal.at.invariant_of-self-2 c).After-steps_between-count) (behind_of_back c.args.self.now c.args.plane.now c.requires.across.back))

pub returns-clause-ok : goal.returns-clause-ok
returns-clause-ok c =
    subst (λ u. IsPartInFront u c.args.self.now c.args.plane.now) (sym (view (goal.at.returns-clause-ok c).After-push_reserved))
    (cut_is_part c.args.self.now c.args.plane.now c.args.run.now.start c.steps_between-count.result (subst IsConvex c.self.view_is c.self.invariant) (kept (goal.at.returns-clause-ok c).After-steps_between-count) (behind_of_back c.args.self.now c.args.plane.now c.requires.across.back))
