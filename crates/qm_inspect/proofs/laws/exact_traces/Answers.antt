use Rattle.qm_spans.specs.ComputedSpans.{trace_of}
use Rattle.qm_spans.proofs.ComputedSpans.{computed_trace}
use Rattle.qm_spans.proofs.OneTrace.{one_trace}
use Rattle.qm_answers.specs.Answers.{point_of}
use Rattle.qm_answers.specs.AnswerText.{trace_between}
use Rattle.qm_inspect.proofs.laws.exact_traces.Goals as goal

pub returns-clause-are_trace : goal.returns-clause-are_trace
returns-clause-are_trace c = λ tree from to. (trace_between tree (point_of from) (point_of to)).1

pub returns-clause-only : goal.returns-clause-only
returns-clause-only c = λ tree from to other is.
    let printed = trace_between tree (point_of from) (point_of to) in
    one_trace tree (point_of from) (point_of to) other printed.0 is printed.1

pub returns-clause-computed : goal.returns-clause-computed
returns-clause-computed c = λ tree from to.
    let printed = trace_between tree (point_of from) (point_of to) in
    one_trace tree (point_of from) (point_of to) printed.0 (trace_of tree (point_of from) (point_of to)) printed.1 (computed_trace tree (point_of from) (point_of to))
