use Rattle.std.specs.Prelude.{sum_by}
use Rattle.qm_partition.specs.Numbering.{child_of}
use Rattle.qm_reach.specs.inner.DueBodies.{body_at, body_weight, IsWalking}
use Rattle.qm_descent.proofs.walk.reached_leaves.Given as goal

abbrev pub invariant-loop-next : goal.invariant-loop-next
invariant-loop-next l = IsWalking l.tree (body_at l.fn.body (child_of l.tree.shape 0 0)) l.due.items l.found.items

abbrev pub decreases-loop-next : goal.decreases-loop-next
decreases-loop-next l = sum_by (body_weight l.tree) l.due.items
