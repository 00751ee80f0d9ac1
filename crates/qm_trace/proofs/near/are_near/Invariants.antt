use Rattle.qm_spans.proofs.TracedValues.{AreNearBelow}
use Rattle.qm_trace.proofs.near.are_near.Given as goal

-- the planes of the nodes before this one are near
abbrev pub invariant-loop-n : goal.invariant-loop-n
invariant-loop-n l = AreNearBelow l.tree l.n
