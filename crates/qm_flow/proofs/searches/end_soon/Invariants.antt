use Rattle.std.proofs.Common.{◌≡◌, ℕ, Bool, List}
use Rattle.qm_chains.specs.inner.Pairs.{ArePairs}
use Rattle.qm_flow.specs.inner.FlowPairs.{pairs_of}
use Rattle.qm_flow.specs.inner.SearchSoFar.{IsSearchVia}
use Rattle.qm_flow.specs.inner.Spares.{AreSparesWide}
use Rattle.qm_flow.proofs.searches.end_soon.Given as goal

-- each search that it was goes on so far; what is known of pairs stays of the same first portal; and the source goes on from what
-- it was
abbrev pub invariant-loop : goal.invariant-loop
invariant-loop g l = record {
  so_far : (number : ℕ) (found : List Bool) → IsSearchVia l.fn.looks.flow.now.world.now (pairs_of l.fn.looks.flow.now) number found l.fn.stack.frames.items l.fn.sighted →
      IsSearchVia l.fn.looks.flow.now.world.now (pairs_of l.fn.looks.flow.now) number found l.stack.frames.items l.sighted;
  world : l.looks.flow.now.world.now ≡ l.fn.looks.flow.now.world.now;
  first : l.looks.flow.now.first ≡ l.fn.looks.flow.now.first;
  pairs : ArePairs l.fn.looks.flow.now.world.now l.sighted (pairs_of l.looks.flow.now);
  spares : AreSparesWide l.fn.looks.flow.now.world.now l.stack;
  on : g.S.RowSource.goes_on l.fn.source l.source;
}
