use Rattle.qm_partition.specs.Counting.{node_count}
use Rattle.qm_partition.specs.inner.PlacedPart.{nodes_from}
use Rattle.qm_partition.proofs.FoundWays.{IsOnTheWay}
use Rattle.qm_tree.proofs.tree.Tree.path.Given as goal

-- the steps so far lead to the child, below which the leaf is
abbrev pub invariant-loop-child : goal.invariant-loop-child
invariant-loop-child l = IsOnTheWay l.self.shape l.leaf l.child l.first l.steps.items

abbrev pub decreases-loop-child : goal.decreases-loop-child
decreases-loop-child l = nodes_from (node_count l.self.shape) l.child
