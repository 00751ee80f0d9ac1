use Rattle.qm_tree.specs.inner.MarkedBelow.{AreMarkedBelow}
use Rattle.qm_tree.proofs.filling.mark_filled.Given as goal

-- the leaves before this place are marked
abbrev pub invariant-loop-k : goal.invariant-loop-k
invariant-loop-k l = AreMarkedBelow l.k l.filled l.fn.leaves l.leaves
