use Rattle.std.proofs.Common.{sym, subst}
use Rattle.qm_formats.specs.TreeFile.{TreeFile}
use Rattle.qm_answers.specs.Answers.{HasEndsInside}
use Rattle.qm_inspect.proofs.TraceAnswers.{trace_outside, trace_answer}
use Rattle.qm_inspect.proofs.traces.trace.Goals as goal

pub returns-then-not-has_ends_inside : goal.returns-then-not-has_ends_inside
returns-then-not-has_ends_inside c =
    trace_outside c.args.file.now c.args.from c.args.to (λ inside.
    let is = c.has_ends_inside.ensures.1 (subst (λ (file : TreeFile). HasEndsInside file.bound c.args.from c.args.to) (sym c.file.view_is) inside) in
    let not_is = c.if-not-has_ends_inside.true in
    absurd cc)

pub returns : goal.returns
returns c =
    trace_answer c.args.file.now c.args.parts.now c.args.from c.args.to c.trace_if_fits.result c.requires
    (subst (λ (file : TreeFile). HasEndsInside file.bound c.args.from c.args.to) c.file.view_is (c.has_ends_inside.ensures.0 c.if-not-has_ends_inside.false))
    c.trace_if_fits.ensures
