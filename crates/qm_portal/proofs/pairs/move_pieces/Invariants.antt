use Rattle.std.proofs.Common.{◌≡◌, ◌++◌, map}
use Rattle.std.specs.Vec.Iter.{drain_items}
use Rattle.qm_contacts.specs.inner.Pieces.{touching_at}
use Rattle.qm_portal.proofs.pairs.move_pieces.Given as goal

abbrev pub invariant-loop-piece : goal.invariant-loop-piece
invariant-loop-piece l = record {
  can_next : (goal.iterator-loop-piece).can_next l.piece-iterator;
  is_finite : (goal.iterator-loop-piece).is_finite l.piece-iterator;
  moved : l.pairs.items ++ map (touching_at l.n l.front) (drain_items l.piece-iterator) ≡ l.fn.pairs.items ++ map (touching_at l.n l.front) (drain_items l.initial.piece-iterator);
}
