use Rattle.qm_partition.proofs.NumberingWalks.{IsNumbering}
use Rattle.qm_tree.proofs.numbering.numbered_parts.Given as goal

-- the visits so far are numbered
abbrev pub invariant-loop-visit : goal.invariant-loop-visit
invariant-loop-visit l = IsNumbering l.backwards l.visit-index l.waiting.items l.nodes.items l.leaves.items l.next_node l.next_leaf
