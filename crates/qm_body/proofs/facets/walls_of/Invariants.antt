use Rattle.std.proofs.Common.{◌≡◌, map, take}
use Rattle.qm_convex.specs.inner.Facets.{inward_of}
use Rattle.qm_body.proofs.facets.walls_of.Given as goal

abbrev pub invariant-loop-facet : goal.invariant-loop-facet
invariant-loop-facet l = l.walls.items ≡ map inward_of (take l.facet-index l.facets)
