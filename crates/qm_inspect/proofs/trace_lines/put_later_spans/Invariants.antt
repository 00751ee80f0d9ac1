use Rattle.std.proofs.Common.{◌≡◌, ◌++◌, length, string_bytes}
use Rattle.qm_partition.specs.Counting.{leaf_count}
use Rattle.qm_spans.specs.Spans.{AreLeavesThere}
use Rattle.qm_answers.specs.AnswerText.{words_of_later_spans}
use Rattle.qm_inspect.proofs.trace_lines.put_later_spans.Given as goal

-- what is added, and what is still to come, is all
abbrev pub invariant-loop-span : goal.invariant-loop-span
invariant-loop-span l = record {
  leaves : AreLeavesThere (leaf_count l.tree.shape) l.tracer;
  words : string_bytes l.text ++ words_of_later_spans l.tree l.tracer ≡ string_bytes l.fn.text ++ words_of_later_spans l.tree l.fn.tracer;
}

abbrev pub decreases-loop-span : goal.decreases-loop-span
decreases-loop-span l = length l.tracer
