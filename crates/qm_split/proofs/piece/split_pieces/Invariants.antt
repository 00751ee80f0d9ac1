use Rattle.std.specs.Vec.Iter.{into_iter_items, into_iter_len}
use Rattle.qm_space.specs.Plane.{flipped}
use Rattle.qm_split.specs.inner.PieceParts.{AreFront}
use Rattle.qm_lists.specs.inner.Taking.{IsTakenFrom}
use Rattle.qm_split.proofs.piece.split_pieces.Given as goal

abbrev pub invariant-loop-piece : goal.invariant-loop-piece
invariant-loop-piece l = record {
  taken : IsTakenFrom l.yielded (into_iter_items l.initial.piece-iterator) (into_iter_items l.piece-iterator) (into_iter_len l.piece-iterator);
  front : AreFront l.yielded l.plane l.front.items;
  back : AreFront l.yielded (flipped l.plane) l.back.items;
}
