use Rattle.std.proofs.Common.{List, Bool}
use Rattle.qm_flow.specs.inner.FlowGoesOn.{FlowGoesOn}
use Rattle.qm_flow.proofs.bars.bar_unseen.Given as goal

-- the flow and the source go on from what they were
abbrev pub invariant-loop-leaf : goal.invariant-loop-leaf
invariant-loop-leaf g l = record {
  flow : (found : List Bool) → FlowGoesOn (g.S.RowSource.ceilings l.fn.source) found l.fn.flow l.flow;
  on : g.S.RowSource.goes_on l.fn.source l.source;
}
