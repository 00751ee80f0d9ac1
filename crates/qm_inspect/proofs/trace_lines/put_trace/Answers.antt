use Rattle.std.proofs.Common.{◌≡◌, ◌++◌, List, subst}
use Rattle.std.specs.Prelude.{OnOk, string_bytes}
use Rattle.qm_space.specs.Point.{Point}
use Rattle.qm_spans.specs.declared.span.Span.{Span}
use Rattle.qm_spans.specs.SegmentTrace.{IsSegmentTrace}
use Rattle.qm_spans.proofs.OneTrace.{one_trace}
use Rattle.qm_answers.specs.Answers.{point_of}
use Rattle.qm_answers.specs.AnswerText.{trace_between, words_of_spans}
use Rattle.qm_inspect.proofs.trace_lines.put_trace.Goals as goal

pub returns : goal.returns
returns c =
    let tree = c.args.tree.now in
    let a = point_of c.args.from in
    let b = point_of c.args.to in
    let printed = trace_between tree a b in
    let between = subst (λ (p : Point). IsSegmentTrace tree p c.point_of-2.result c.in-Ok.tracer) c.point_of.ensures c.in-Ok.ensures.trace in
    let own = subst (λ (p : Point). IsSegmentTrace tree a p c.in-Ok.tracer) c.point_of-2.ensures between in
    subst (λ (spans : List Span). OnOk c.put_spans.result (string_bytes c.put_spans.new.text ≡ string_bytes c.args.text.now ++ words_of_spans tree spans))
    (one_trace tree a b c.in-Ok.tracer printed.0 own printed.1) c.put_spans.ensures
