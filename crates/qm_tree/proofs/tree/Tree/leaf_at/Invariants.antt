use Rattle.qm_partition.specs.Counting.{node_count}
use Rattle.qm_partition.specs.inner.PlacedPart.{nodes_from}
use Rattle.qm_partition.proofs.PlacedParts.{LeadsOn}
use Rattle.qm_tree.proofs.tree.Tree.leaf_at.Given as goal

-- the child is what the point is led to
abbrev pub invariant-loop-child : goal.invariant-loop-child
invariant-loop-child l = LeadsOn l.self.planes l.self.shape l.at l.child

abbrev pub decreases-loop-child : goal.decreases-loop-child
decreases-loop-child l = nodes_from (node_count l.self.shape) l.child
