use Rattle.qm_separators.specs.inner.Found.{AreBoth}
use Rattle.qm_narrow.specs.declared.pair.Pair.{Pair}
use Rattle.qm_narrow.specs.inner.Edge.{IsOwner}

-- Two windings, of which one has the edges and the other the corners of candidates.

-- these are the source and the pass, and the flag tells which of them has the edges
pub record IsPair (pair : Pair) : Type 0 where
  pub both : AreBoth pair.source.now pair.pass.now pair.edges.now pair.others.now
  pub owner : IsOwner pair.source.now pair.pass.now pair.edges.now pair.of_pass
