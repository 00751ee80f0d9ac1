use Rattle.qm_narrow.proofs.Traces.{IsTracing}
use Rattle.qm_narrow.proofs.corner_lists.CornerLists.trace.Given as goal

-- the corners so far
abbrev pub invariant-loop-i : goal.invariant-loop-i
invariant-loop-i l = IsTracing l.winding l.self.corners.items l.self.spots.items l.i
