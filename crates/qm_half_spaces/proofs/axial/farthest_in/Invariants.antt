use Rattle.qm_half_spaces.specs.inner.AxialPlanes.{IsBoundAmong}
use Rattle.qm_half_spaces.proofs.axial.farthest_in.Given as goal

abbrev pub invariant-loop-plane : goal.invariant-loop-plane
invariant-loop-plane l = IsBoundAmong l.planes l.bound l.wall
