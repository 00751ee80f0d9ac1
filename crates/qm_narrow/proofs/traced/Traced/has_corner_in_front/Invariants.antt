use Rattle.qm_space.specs.Plane.{IsInFront}
use Rattle.qm_narrow.proofs.SoughtCorners.{NoneBefore}
use Rattle.qm_narrow.proofs.traced.Traced.has_corner_in_front.Given as goal

abbrev pub invariant-loop-i : goal.invariant-loop-i
invariant-loop-i l = NoneBefore l.self (IsInFront l.plane) l.i
