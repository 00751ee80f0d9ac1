use Rattle.qm_partition.specs.Counting.{leaf_count}
use Rattle.qm_inspect.proofs.PrintedSpans.{later_leaves}
use Rattle.qm_inspect.proofs.trace_lines.put_spans.Goals as goal

pub put_later_spans-requires : goal.put_later_spans-requires
put_later_spans-requires c = later_leaves (leaf_count c.args.tree.now.shape) c.args.tracer.now c.next.new.self c.next.result c.requires c.next.ensures
