use Rattle.std.proofs.Common.{take}
use Rattle.qm_portal.specs.inner.Cells.{HasNoneOfNormal}
use Rattle.qm_portal.proofs.bounds.place_of_normal.Given as goal

abbrev pub invariant-loop-place : goal.invariant-loop-place
invariant-loop-place l = HasNoneOfNormal l.plane (take l.place l.bounds)
