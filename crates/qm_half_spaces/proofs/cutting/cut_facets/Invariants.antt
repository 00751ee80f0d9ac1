use Rattle.std.specs.Vec.Iter.{into_iter_items, into_iter_len}
use Rattle.qm_lists.specs.inner.Taking.{IsTakenFrom}
use Rattle.qm_convex.specs.inner.Facets.{AreCut}
use Rattle.qm_half_spaces.proofs.cutting.cut_facets.Given as goal

abbrev pub invariant-loop-facet : goal.invariant-loop-facet
invariant-loop-facet l = record {
  taken : IsTakenFrom l.yielded (into_iter_items l.initial.facet-iterator) (into_iter_items l.facet-iterator) (into_iter_len l.facet-iterator);
  cut : AreCut l.plane l.yielded l.left.items;
}
