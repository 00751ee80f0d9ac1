use Rattle.qm_separators.specs.Gains.{Gains}
use Rattle.qm_separators.specs.inner.Below.{HasBelow}
use Rattle.qm_separators.specs.inner.Found.{SeparatesByEdge}
use Rattle.qm_narrow.proofs.candidates.gain_across.Given as goal

-- those of the edges before
abbrev pub invariant-loop-i : goal.invariant-loop-i
invariant-loop-i l = Gains (HasBelow l.i (SeparatesByEdge l.pair.source.now l.pair.pass.now l.pair.edges.now l.pair.others.now)) l.fn.planes.items l.planes.items
