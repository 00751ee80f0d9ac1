use Rattle.std.proofs.Common.{take}
use Rattle.qm_facets.specs.Body.{HasNoFacetInFront}
use Rattle.qm_half_spaces.proofs.facing.has_facet_in_front.Given as goal

-- none of those before has
abbrev pub invariant-loop-facet : goal.invariant-loop-facet
invariant-loop-facet l = HasNoFacetInFront l.plane (take l.facet-index l.facets)
