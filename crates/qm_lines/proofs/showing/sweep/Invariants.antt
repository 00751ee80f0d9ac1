use Rattle.std.proofs.Common.{◌≡◌, length}
use Rattle.qm_lines.specs.inner.Drawing.{HasDrawn}
use Rattle.qm_lines.proofs.showing.sweep.Given as goal

abbrev pub invariant-loop-leaf : goal.invariant-loop-leaf
invariant-loop-leaf g l = record {
  drawn : HasDrawn l.first (g.S.RowSource.ceilings l.fn.source) (g.S.RowSource.goes_on l.fn.source l.source) l.fn.row l.row;
  gone : length l.gone ≡ length l.fn.gone;
}
