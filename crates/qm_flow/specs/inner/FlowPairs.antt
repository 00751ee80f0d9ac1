use Rattle.qm_chains.specs.inner.Pairs.{Pairs}
use Rattle.qm_flow.specs.declared.flow_state.Flow.{Flow}

-- what a flow knows of its first portal and other ones
abbrev pub pairs_of : Flow → Pairs
pairs_of flow = record { first = flow.first; start = flow.start.state; seen = flow.seen; own = flow.own }
