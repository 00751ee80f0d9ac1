use Rattle.qm_base.specs.inner.Besides.{AreClear}
use Rattle.qm_base.proofs.beside.clear.Given as goal

abbrev pub invariant-loop-c : goal.invariant-loop-c
invariant-loop-c l = AreClear l._c l.lanes l.rows.items
