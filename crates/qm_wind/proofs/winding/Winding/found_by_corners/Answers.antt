use Rattle.std.proofs.Common.{subst}
use Rattle.qm_convex.specs.Winding.{IsConvex}
use Rattle.qm_wind.specs.inner.Surveyed.{IsSurvey}
use Rattle.qm_wind.proofs.Clips.{survey_whole, survey_behind, survey_on, survey_front, survey_back}
use Rattle.qm_wind.proofs.winding.Winding.found_by_corners.Goals as goal

pub returns-in-true-false : goal.returns-in-true-false
returns-in-true-false c =
    survey_whole c.args.self.now c.args.plane.now c.survey-survey.result (subst IsConvex c.self.view_is c.self.invariant.in_world.convex) (subst (λ v. IsSurvey v c.args.plane.now c.survey-survey.result) c.self.view_is c.survey-survey.ensures) c.in-true-false.is-0 c.in-true-false.is-1

pub returns-in-false-true : goal.returns-in-false-true
returns-in-false-true c =
    survey_behind c.args.self.now c.args.plane.now c.survey-survey.result (subst IsConvex c.self.view_is c.self.invariant.in_world.convex) (subst (λ v. IsSurvey v c.args.plane.now c.survey-survey.result) c.self.view_is c.survey-survey.ensures) c.in-false-true.is-0 c.in-false-true.is-1

pub returns-in-false-false : goal.returns-in-false-false
returns-in-false-false c =
    survey_on c.args.self.now c.args.plane.now c.survey-survey.result (subst IsConvex c.self.view_is c.self.invariant.in_world.convex) (subst (λ v. IsSurvey v c.args.plane.now c.survey-survey.result) c.self.view_is c.survey-survey.ensures) c.in-false-false.is-0 c.in-false-false.is-1

pub returns-in-true-true : goal.returns-in-true-true
returns-in-true-true c = (
  subst (λ v. IsSurvey v c.args.plane.now c.survey-survey.result) c.self.view_is c.survey-survey.ensures,
  record {
    front = survey_front c.args.self.now c.args.plane.now c.survey-survey.result (subst IsConvex c.self.view_is c.self.invariant.in_world.convex) (subst (λ v. IsSurvey v c.args.plane.now c.survey-survey.result) c.self.view_is c.survey-survey.ensures) c.in-true-true.is-0;
    back = survey_back c.args.self.now c.args.plane.now c.survey-survey.result (subst IsConvex c.self.view_is c.self.invariant.in_world.convex) (subst (λ v. IsSurvey v c.args.plane.now c.survey-survey.result) c.self.view_is c.survey-survey.ensures) c.in-true-true.is-1;
  },
)
