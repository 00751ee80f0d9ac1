use Rattle.std.specs.Vec.Iter.{into_iter_items, into_iter_len}
use Rattle.qm_lists.specs.inner.Taking.{IsTakenFrom}
use Rattle.qm_surface.specs.Cutting.{cutters, AreCarved}
use Rattle.qm_faces.proofs.carving.carve_all.Given as goal

abbrev pub invariant-loop-part : goal.invariant-loop-part
invariant-loop-part l = record {
  taken : IsTakenFrom l.yielded (into_iter_items l.initial.part-iterator) (into_iter_items l.part-iterator) (into_iter_len l.part-iterator);
  carved : AreCarved (cutters l.planes l.plane l.faces) l.yielded l.left.items l.inner.items;
}
