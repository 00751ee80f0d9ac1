use Rattle.std.proofs.Common.{◌≡◌, ◌++◌, ◌∷◌, [], List, map, refl, ap, ◌∙◌, arith, vec_len}
use Rattle.std.specs.Vec.Iter.{drain_items}
use Rattle.qm_contacts.specs.inner.Pieces.{LeafPiece, touching_at}
use Rattle.qm_portal.proofs.AddedPairs.{moved_more, moved_all, whole_range}
use Rattle.qm_portal.proofs.pairs.move_pieces.Goals as goal

pub loop-piece-init : goal.loop-piece-init
loop-piece-init c = record { can_next = tt; is_finite = tt; moved = refl }

pub loop-piece-preserved : goal.loop-piece-preserved
loop-piece-preserved c = record {
  can_next = tt;
  is_finite = tt;
  moved = moved_more (touching_at c.args.n c.args.front) c.loop-piece.pairs.items c.push.new.self.items _ (drain_items c.loop-piece.piece-iterator) (drain_items c.next.new.self) c.in-Some.piece
      (c.in_ok-push.ensures.items ∙ ap (λ (p : LeafPiece). c.loop-piece.pairs.items ++ touching_at c.args.n c.args.front p ∷ []) c.piece.view_is)
      c.in-Some.ensures.steps.0
      c.loop-piece.invariant.moved;
}

pub returns-clause-pairs : goal.returns-clause-pairs
returns-clause-pairs c =
    let pieces = c.args.pieces.now in
    let all : drain_items c.into_iter-piece-iterator.result ≡ pieces.items =
    ap drain_items c.into_iter-piece-iterator.ensures.into_iter_gives ∙ c.drain-piece-items.ensures.rest ∙ whole_range pieces.items (vec_len pieces) (omega (arith, pieces.ok.0)) in
    moved_all (touching_at c.args.n c.args.front) c.loop-piece.pairs.items c.args.pairs.now.items pieces.items (drain_items c.loop-piece.piece-iterator) c.in-None.ensures.steps.0
    (c.loop-piece.invariant.moved ∙ ap (λ (ps : List LeafPiece). c.args.pairs.now.items ++ map (touching_at c.args.n c.args.front) ps) all)
