use Rattle.qm_faces.specs.inner.Cuts.{IsOnItsWay}
use Rattle.qm_faces.proofs.carving.carve.Given as goal

abbrev pub invariant-loop-face : goal.invariant-loop-face
invariant-loop-face l = IsOnItsWay l.planes l.plane l.faces l.face-index l.fn.part l.part l.fn.left.items l.left.items
