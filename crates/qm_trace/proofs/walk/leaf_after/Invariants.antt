use Rattle.qm_partition.specs.Counting.{node_count}
use Rattle.qm_partition.specs.inner.PlacedPart.{nodes_from}
use Rattle.qm_spans.proofs.WalkedSpans.{LeadsAfter}
use Rattle.qm_trace.proofs.walk.leaf_after.Given as goal

-- the segment is in the child just after the parting, and leaves it at the other one or sooner
abbrev pub invariant-loop-child : goal.invariant-loop-child
invariant-loop-child l = LeadsAfter l.tree l.from l.to l.at l.child l.leave

abbrev pub decreases-loop-child : goal.decreases-loop-child
decreases-loop-child l = nodes_from (node_count l.tree.shape) l.child
