use Rattle.std.proofs.Common.{sym, ap, ◌∙◌}
use Rattle.qm_convex.specs.Winding.{Winding}
use Rattle.qm_split.specs.declared.contender.Body.{Body}
use Rattle.qm_lists.proofs.Places.{Contains-read}
use Rattle.qm_split.proofs.SidesOfPlanes.{same_by_test}
use Rattle.qm_split.proofs.contender.Contender.winding_on.Goals as goal

pub returns-then-eq : goal.returns-then-eq
returns-then-eq c = record {
  piece = c.piece-item.result;
  listed = Contains-read c.deref-piece-items.result.now c.loop-piece.piece-index c.piece-item.result c.loop-piece-test.true c.piece-item.is c.args.self.now.body.value.pieces.items
      (c.deref-piece-items.ensures.value ∙ ap (λ (b : Body). b.pieces.items) c.deref.ensures);
  is = c.deref-then-eq.ensures;
  on = ap (λ (w : Winding). w.plane) (c.deref-then-eq.ensures ∙ sym c.deref-in-loop-piece.ensures) ∙ sym c.plane.ensures ∙ same_by_test c.plane.result c.args.plane.now c.eq.result c.eq.ensures c.if-eq.true;
}
