use Rattle.std.proofs.Common.{take}
use Rattle.qm_brush.specs.inner.FaceParts.{IsFacePart}
use Rattle.qm_brush.proofs.fullness.part_of_face.Given as goal

-- the part behind the faces before
abbrev pub invariant-loop-other : goal.invariant-loop-other
invariant-loop-other l = IsFacePart l.planes (take l.other-index l.faces) l.face l.part
