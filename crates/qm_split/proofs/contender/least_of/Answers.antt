use Rattle.std.proofs.Common.{List, Some, None, take, sym, subst}
use Rattle.std.proofs.lemmas.List.{take_all}
use Rattle.qm_split.specs.declared.piece.Piece.{Piece}
use Rattle.qm_split.specs.inner.Ranked.{IsLesser}
use Rattle.qm_lists.proofs.Places.{take-read}
use Rattle.qm_split.proofs.RankOrder.{lesser_begins, lesser_more}
use Rattle.qm_split.proofs.contender.least_of.Goals as goal

pub loop-piece-init : goal.loop-piece-init
loop-piece-init c = lesser_begins None

pub loop-piece-preserved : goal.loop-piece-preserved
loop-piece-preserved c =
    subst (λ (ps : List Piece). IsLesser None ps (Some c.first_of.result))
    (sym (take-read c.args.pieces.now c.loop-piece.piece-index c.piece-item.result c.loop-piece-test.true c.piece-item.is))
    (lesser_more None (take c.loop-piece.piece-index c.args.pieces.now) c.piece-item.result c.rank.result c.rank.ensures c.loop-piece.least c.first_of.result c.loop-piece.invariant c.first_of.ensures)

pub returns : goal.returns
returns c =
    subst (λ (ps : List Piece). IsLesser None ps c.loop-piece.least) (take_all c.loop-piece.piece-index c.args.pieces.now c.loop-piece-test.false) c.loop-piece.invariant
