use Rattle.qm_chains.specs.inner.Narrowing.{IsNarrowedUpTo}
use Rattle.qm_chains.specs.inner.OwnRows.{MustHave, CanHave}
use Rattle.qm_sight.specs.WordInSight.{ceiling_of}
use Rattle.qm_flow.proofs.masks.narrow.Given as goal

-- the mask is narrowed by the words so far, and the source goes on from what it was
abbrev pub invariant-loop-k : goal.invariant-loop-k
invariant-loop-k g l = record {
  narrowed : IsNarrowedUpTo (MustHave (g.S.RowSource.world l.fn.source) l.own l.portal) (CanHave (ceiling_of (g.S.RowSource.ceilings l.fn.source) l.portal) l.own l.portal) l.k l.fn.mask l.mask;
  on : g.S.RowSource.goes_on l.fn.source l.source;
}
