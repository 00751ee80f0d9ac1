use Rattle.std.proofs.Common.{take, All}
use Rattle.qm_brush.specs.inner.FaceParts.{IsMissing}
use Rattle.qm_brush.proofs.fullness.is_full.Given as goal

-- of the faces before there is no point
abbrev pub invariant-loop-face : goal.invariant-loop-face
invariant-loop-face l = All (IsMissing l.planes l.faces) (take l.face-index l.faces)
