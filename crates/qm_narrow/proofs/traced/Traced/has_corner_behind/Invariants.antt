use Rattle.qm_space.specs.Plane.{IsBehind}
use Rattle.qm_narrow.proofs.SoughtCorners.{NoneBefore}
use Rattle.qm_narrow.proofs.traced.Traced.has_corner_behind.Given as goal

abbrev pub invariant-loop-i : goal.invariant-loop-i
invariant-loop-i l = NoneBefore l.self (IsBehind l.plane) l.i
