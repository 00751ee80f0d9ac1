use Rattle.qm_base.specs.inner.Tables.{AreClasses}
use Rattle.qm_base.proofs.table.classes_of.Given as goal

abbrev pub invariant-loop-k : goal.invariant-loop-k
invariant-loop-k l = AreClasses l.lanes l.k l.kinds.items l.planes.items
