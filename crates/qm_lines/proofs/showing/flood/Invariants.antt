use Rattle.std.proofs.Common.{◌≡◌, length}
use Rattle.qm_lines.specs.inner.Drawing.{HasDrawn}
use Rattle.qm_lines.proofs.showing.flood.Given as goal

abbrev pub invariant-loop : goal.invariant-loop
invariant-loop g l = record {
  drawn : HasDrawn l.first (g.S.RowSource.ceilings l.fn.source) (g.S.RowSource.goes_on l.fn.source l.source) l.fn.row l.row;
  gone : length l.gone ≡ length l.fn.gone;
}
