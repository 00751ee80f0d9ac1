use Rattle.std.proofs.Common.{◌-◌}
use Rattle.qm_wind.specs.inner.Surveyed.{IsSurveyBelow}
use Rattle.qm_wind.proofs.Surveys.{IsSideAt}
use Rattle.qm_wind.proofs.survey.Survey.of.Given as goal

abbrev pub invariant-loop-i : goal.invariant-loop-i
invariant-loop-i l =
    IsSurveyBelow (record { plane = l.on; edges = l.edges }) l.plane l.i l.survey × IsSideAt l.before (record { plane = l.on; edges = l.edges }) l.plane (l.i - 1)
