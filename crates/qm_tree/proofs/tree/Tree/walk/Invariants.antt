use Rattle.std.proofs.Common.{◌-◌, length, vec_len}
use Rattle.qm_partition.specs.Visits.{visits}
use Rattle.qm_partition.proofs.Walking.{IsWalking}
use Rattle.qm_tree.proofs.tree.Tree.walk.Given as goal

-- the children that are due are what is left to visit
abbrev pub invariant-loop-child : goal.invariant-loop-child
invariant-loop-child l = IsWalking l.self.shape l.due.items l.walk.items

abbrev pub decreases-loop-child : goal.decreases-loop-child
decreases-loop-child l = length (visits l.self.shape) - vec_len l.walk
