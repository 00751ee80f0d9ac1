use Rattle.std.proofs.Common.{◌≡◌, map}
use Rattle.std.specs.Vec.Iter.{into_iter_items, into_iter_len}
use Rattle.qm_lists.specs.inner.Taking.{IsTakenFrom}
use Rattle.qm_convex.specs.inner.Facets.{facing_in}
use Rattle.qm_body.proofs.facets.facets_of.Given as goal

abbrev pub invariant-loop-winding : goal.invariant-loop-winding
invariant-loop-winding l = record {
  taken : IsTakenFrom l.yielded (into_iter_items l.initial.winding-iterator) (into_iter_items l.winding-iterator) (into_iter_len l.winding-iterator);
  facets : l.facets.items ≡ map facing_in l.yielded;
}
