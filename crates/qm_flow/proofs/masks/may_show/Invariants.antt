use Rattle.std.proofs.Common.{◌≡◌, ◌/◌, take, Contains}
use Rattle.qm_chains.specs.inner.Narrowing.{ShowsNothingNew}
use Rattle.qm_chains.specs.inner.OwnRows.{MustHave}
use Rattle.qm_flow.proofs.masks.may_show.Given as goal

-- the words so far show nothing new, none was moved, and the source goes on from what it was
abbrev pub invariant-loop-i : goal.invariant-loop-i
invariant-loop-i g l = record {
  none : ShowsNothingNew (λ n. MustHave (g.S.RowSource.world l.fn.source) l.own l.portal n × Contains (take l.i l.fn.words) (n / 64)) l.mask l.found;
  same : l.words ≡ l.fn.words;
  on : g.S.RowSource.goes_on l.fn.source l.source;
}
