use Rattle.std.proofs.Common.{arith}
use Rattle.qm_wind.proofs.Surveys.{survey_start, survey_step, survey_end}
use Rattle.qm_wind.proofs.survey.Survey.of.Goals as goal

pub loop-i-init : goal.loop-i-init
loop-i-init c =
    survey_start (record { plane = c.args.on.now; edges = c.args.edges.now }) c.args.plane.now c.side_of_corner-first.result c.beginning-survey.result (let e = c.requires.enough in omega arith) (c.side_of_corner-first.ensures c.args.plane.now c.args.on.now c.of-line.ensures) c.beginning-survey.ensures

pub loop-i-preserved : goal.loop-i-preserved
loop-i-preserved c =
    survey_step (record { plane = c.args.on.now; edges = c.args.edges.now }) c.args.plane.now c.loop-i.i c.loop-i.survey c.noting-survey.result c.loop-i.before c.side_of_corner-here.result c.loop-i.auto.i c.loop-i-test.true (c.side_of_corner-here.ensures c.args.plane.now c.args.on.now c.of-line.ensures) c.noting-survey.ensures c.loop-i.invariant

pub returns : goal.returns
returns c =
    survey_end (record { plane = c.args.on.now; edges = c.args.edges.now }) c.args.plane.now c.loop-i.i c.loop-i.survey c.noting.result c.loop-i.before c.side_of_corner-first.result c.loop-i.auto.i (let e = c.requires.enough in omega arith) (c.side_of_corner-first.ensures c.args.plane.now c.args.on.now c.of-line.ensures) c.noting.ensures c.loop-i.invariant
