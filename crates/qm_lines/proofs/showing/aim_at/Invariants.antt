use Rattle.qm_lines.specs.inner.Drawing.{HasDrawn}
use Rattle.qm_lines.proofs.showing.aim_at.Given as goal

abbrev pub invariant-loop-place : goal.invariant-loop-place
invariant-loop-place g l = HasDrawn l.first (g.S.RowSource.ceilings l.fn.source) (g.S.RowSource.goes_on l.fn.source l.source) l.fn.row l.row
