use Rattle.std.proofs.Common.{length}
use Rattle.qm_faces.specs.inner.Rows.{AreRowsSoFar}
use Rattle.qm_faces.proofs.rows.owner_rows.Given as goal

abbrev pub invariant-loop-brush : goal.invariant-loop-brush
invariant-loop-brush l = AreRowsSoFar (length l.planes) l.list l.brush l.rows.items
