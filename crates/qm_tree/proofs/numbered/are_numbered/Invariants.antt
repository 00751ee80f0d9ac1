use Rattle.std.proofs.Common.{◌+◌, ◌-◌, length}
use Rattle.qm_partition.proofs.NumberedWalks.{IsWalked}
use Rattle.qm_tree.proofs.numbered.are_numbered.Given as goal

-- what is due fits the rest if and only if the whole is numbered
abbrev pub invariant-loop-child : goal.invariant-loop-child
invariant-loop-child l = IsWalked l.nodes l.leaves l.due.items l.next_node l.next_leaf

abbrev pub decreases-loop-child : goal.decreases-loop-child
decreases-loop-child l = (length l.nodes - l.next_node) + (l.leaves - l.next_leaf)
