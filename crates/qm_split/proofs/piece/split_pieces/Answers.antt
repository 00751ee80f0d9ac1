use Rattle.std.proofs.Common.{List, ◌∷◌, [], ◌++◌, refl, sym, ◌∙◌, subst, arith}
use Rattle.std.proofs.lemmas.Grind.{common_steps}
use Rattle.qm_space.specs.Plane.{flipped}
use Rattle.qm_split.specs.declared.piece.Piece.{Piece}
use Rattle.qm_split.specs.inner.PieceParts.{AreFront}
use Rattle.qm_lists.proofs.Taken.{taken_none, taken_more, taken_all}
use Rattle.qm_split.proofs.PartedPieces.{front_of_none, front_more}
use Rattle.qm_split.proofs.piece.split_pieces.Goals as goal

pub loop-piece-init : goal.loop-piece-init
loop-piece-init c = record {
  taken = taken_none _ _ _ refl (grind (arith, common_steps));
  front = subst (λ (qs : List Piece). AreFront [] c.args.plane.now qs) (sym c.in_ok-front.ensures.items) (front_of_none c.args.plane.now);
  back = subst (λ (qs : List Piece). AreFront [] (flipped c.args.plane.now) qs) (sym c.in_ok-back.ensures.items) (front_of_none (flipped c.args.plane.now));
}

pub loop-piece-preserved : goal.loop-piece-preserved
loop-piece-preserved c = record {
  taken = taken_more _ _ _ _ _ _ c.in-Some.piece c.loop-piece.invariant.taken c.in-Some.ensures.steps.0 c.in-Some.ensures.steps.1;
  front = subst (λ (qs : List Piece). AreFront (c.loop-piece.yielded ++ c.in-Some.piece ∷ []) c.args.plane.now qs) (sym c.in_ok-push_some.ensures)
      (front_more c.loop-piece.yielded c.loop-piece.front.items c.args.plane.now c.loop-piece.invariant.front c.in-Some.piece c.in_ok-parts.parts.front c.in_ok-parts.ensures.front);
  back = subst (λ (qs : List Piece). AreFront (c.loop-piece.yielded ++ c.in-Some.piece ∷ []) (flipped c.args.plane.now) qs) (sym c.in_ok-push_some-2.ensures)
      (front_more c.loop-piece.yielded c.loop-piece.back.items (flipped c.args.plane.now) c.loop-piece.invariant.back c.in-Some.piece c.in_ok-parts.parts.back c.in_ok-parts.ensures.back);
}

pub returns-clause-front : goal.returns-clause-front
returns-clause-front c =
    subst (λ (ps : List Piece). AreFront ps c.args.plane.now c.loop-piece.front.items)
    (taken_all _ _ _ _ c.loop-piece.invariant.taken c.in-None.ensures.steps.0 ∙ c.into_iter-piece-iterator.ensures.into_iter_gives.0) c.loop-piece.invariant.front

pub returns-clause-back : goal.returns-clause-back
returns-clause-back c =
    subst (λ (ps : List Piece). AreFront ps (flipped c.args.plane.now) c.loop-piece.back.items)
    (taken_all _ _ _ _ c.loop-piece.invariant.taken c.in-None.ensures.steps.0 ∙ c.into_iter-piece-iterator.ensures.into_iter_gives.0) c.loop-piece.invariant.back
