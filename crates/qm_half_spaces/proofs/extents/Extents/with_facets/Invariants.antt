use Rattle.std.proofs.Common.{take}
use Rattle.qm_facets.specs.inner.Joined.{IsJoined, HasCornersOfAll}
use Rattle.qm_half_spaces.proofs.extents.Extents.with_facets.Given as goal

-- it has the corners of the facets before
abbrev pub invariant-loop-facet : goal.invariant-loop-facet
invariant-loop-facet l = IsJoined l.fn.self (HasCornersOfAll (take l.facet-index l.facets)) l.extents
