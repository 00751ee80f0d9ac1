use Rattle.qm_lines.specs.inner.Drawing.{HasDrawn}
use Rattle.qm_lines.proofs.showing.show_kept.Given as goal

abbrev pub invariant-loop-one : goal.invariant-loop-one
invariant-loop-one g l = HasDrawn l.first (g.S.RowSource.ceilings l.fn.source) (g.S.RowSource.goes_on l.fn.source l.source) l.fn.row l.row
