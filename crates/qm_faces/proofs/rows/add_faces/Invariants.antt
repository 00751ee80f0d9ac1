use Rattle.std.proofs.Common.{length, take}
use Rattle.qm_faces.specs.inner.Rows.{AreFacesAdded}
use Rattle.qm_faces.proofs.rows.add_faces.Given as goal

abbrev pub invariant-loop-i : goal.invariant-loop-i
invariant-loop-i l = AreFacesAdded (length l.planes) (take l.i l.faces) l.brush l.fn.rows.items l.rows.items
