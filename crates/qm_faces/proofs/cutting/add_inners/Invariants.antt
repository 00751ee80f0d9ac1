use Rattle.std.proofs.Common.{◌≡◌, ◌++◌, map}
use Rattle.std.specs.Vec.Iter.{into_iter_items, into_iter_len}
use Rattle.qm_lists.specs.inner.Taking.{IsTakenFrom}
use Rattle.qm_surface.specs.Surface.{piece_of}
use Rattle.qm_faces.proofs.cutting.add_inners.Given as goal

abbrev pub invariant-loop-inner : goal.invariant-loop-inner
invariant-loop-inner l = record {
  taken : IsTakenFrom l.yielded (into_iter_items l.initial.inner-iterator) (into_iter_items l.inner-iterator) (into_iter_len l.inner-iterator);
  added : l.pieces.items ≡ l.fn.pieces.items ++ map (piece_of l.boundary.leaf l.boundary.side l.owner) l.yielded;
}
