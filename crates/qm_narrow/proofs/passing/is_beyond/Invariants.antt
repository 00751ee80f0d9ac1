use Rattle.std.proofs.Common.{take}
use Rattle.qm_separators.specs.inner.Found.{HasCornersBeyond}
use Rattle.qm_narrow.proofs.passing.is_beyond.Given as goal

-- in front of those before
abbrev pub invariant-loop-plane : goal.invariant-loop-plane
invariant-loop-plane l = HasCornersBeyond l.winding (take l.plane-index l.planes)
