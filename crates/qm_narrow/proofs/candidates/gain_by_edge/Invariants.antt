use Rattle.qm_separators.specs.Gains.{Gains}
use Rattle.qm_separators.specs.inner.Below.{HasBelow}
use Rattle.qm_separators.specs.inner.Found.{SeparatesAt}
use Rattle.qm_narrow.proofs.candidates.gain_by_edge.Given as goal

-- those of the corners before
abbrev pub invariant-loop-k : goal.invariant-loop-k
invariant-loop-k l = Gains (HasBelow l.k (SeparatesAt l.pair.source.now l.pair.pass.now l.pair.edges.now l.pair.others.now l.i)) l.fn.planes.items l.planes.items
