use Rattle.std.proofs.Common.{take}
use Rattle.qm_narrow.specs.inner.FoundPlanes.{HasNormalAmong}
use Rattle.qm_narrow.proofs.across.has_normal.Given as goal

-- none of those before has it
abbrev pub invariant-loop-one : goal.invariant-loop-one
invariant-loop-one l = HasNormalAmong (take l.one-index l.planes) l.along → ⊥
