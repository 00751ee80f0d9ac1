use Rattle.std.proofs.Common.{ap, subst}
use Rattle.qm_convex.specs.Winding.{IsConvex}
use Rattle.qm_convex.proofs.Cutting.{whole_is_part}
use Rattle.qm_wind.proofs.Clips.{survey_gone, survey_whole, survey_front, survey_back}
use Rattle.qm_wind.proofs.ParallelPlanes.{before_in_front}
use Rattle.qm_wind.proofs.polygon.Polygon.keep_in_front_of.Goals as goal

pub returns-then-is_before : goal.returns-then-is_before
returns-then-is_before c =
    whole_is_part c.args.self.now c.args.plane.now (subst IsConvex c.self.view_is c.self.invariant)
    (before_in_front c.args.self.now c.self.inside.plane c.args.plane.now (ap (λ v. v.plane) c.self.view_is) (c.is_before.ensures c.if-is_before.true))

pub returns-then-not-survey : goal.returns-then-not-survey
returns-then-not-survey c =
    survey_gone c.args.self.now c.args.plane.now c.survey-survey.result (subst IsConvex c.self.view_is c.self.invariant) c.survey-survey.ensures c.if-not-survey.true

pub cut_down-requires-clause-across : goal.cut_down-requires-clause-across
cut_down-requires-clause-across c =
    let convex = subst IsConvex c.self.view_is c.self.invariant in
    record {
      front = survey_front c.args.self.now c.args.plane.now c.survey-survey.result convex c.survey-survey.ensures c.if-not-survey.false;
      back = survey_back c.args.self.now c.args.plane.now c.survey-survey.result convex c.survey-survey.ensures c.if-survey.true;
    }

pub returns-else-survey : goal.returns-else-survey
returns-else-survey c =
    let convex = subst IsConvex c.self.view_is c.self.invariant in
    whole_is_part c.args.self.now c.args.plane.now convex
    (survey_whole c.args.self.now c.args.plane.now c.survey-survey.result convex c.survey-survey.ensures c.if-not-survey.false c.if-survey.false)
