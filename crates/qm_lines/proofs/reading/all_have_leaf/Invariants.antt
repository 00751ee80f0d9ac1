use Rattle.std.proofs.Common.{All, take}
use Rattle.qm_sight.specs.InCeiling.{IsInCeiling}
use Rattle.qm_lines.proofs.reading.all_have_leaf.Given as goal

-- the portals so far have the leaf in their ceilings, and the source goes on from what it was
abbrev pub invariant-loop-portal : goal.invariant-loop-portal
invariant-loop-portal g l = record {
  have : All (IsInCeiling (g.S.RowSource.ceilings l.fn.source) l.leaf) (take l.portal-index l.portals);
  on : g.S.RowSource.goes_on l.fn.source l.source;
}
