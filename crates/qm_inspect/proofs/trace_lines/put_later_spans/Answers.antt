use Rattle.std.proofs.Common.{string_bytes}
use Rattle.qm_partition.specs.Counting.{leaf_count}
use Rattle.qm_inspect.proofs.PrintedSpans.{later_leaves, next_span, no_span}
use Rattle.qm_inspect.proofs.trace_lines.put_later_spans.Goals as goal

pub loop-span-preserved : goal.loop-span-preserved
loop-span-preserved c = record {
  leaves = later_leaves (leaf_count c.args.tree.now.shape) c.loop-span.tracer c.next.new.self c.next.result c.loop-span.invariant.leaves c.next.ensures;
  words =
      next_span c.args.tree.now c.loop-span.tracer c.next.new.self c.in-Some.span c.next.result (string_bytes c.loop-span.text) (string_bytes c.put_later_span.new.text)
      _ c.next.ensures c.in-Some.is c.loop-span.invariant.words c.in_ok-put_later_span.ensures;
}

pub returns : goal.returns
returns c =
    no_span c.args.tree.now c.loop-span.tracer c.next.new.self c.next.result (string_bytes c.loop-span.text) _ c.next.ensures c.in_default.not-Some c.loop-span.invariant.words
