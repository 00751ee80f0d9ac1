use Rattle.std.proofs.Common.{List, [], ◌∷◌, ◌++◌, refl, sym, subst, arith}
use Rattle.std.proofs.lemmas.Grind.{common_steps}
use Rattle.qm_lists.proofs.Taken.{taken_none, taken_more}
use Rattle.qm_convex.specs.Winding.{Winding}
use Rattle.qm_surface.specs.Cutting.{cutters, AreCarved, none}
use Rattle.qm_faces.proofs.CutParts.{carved_by_more}
use Rattle.qm_faces.proofs.carving.carve_all.Goals as goal

pub loop-part-init : goal.loop-part-init
loop-part-init c = record {
  taken = taken_none _ _ _ refl (grind (arith, common_steps));
  carved = subst (λ (ws : List Winding). AreCarved (cutters c.args.planes.now c.args.plane c.args.faces.now) [] ws c.new-inner.result.items) (sym c.new-left.ensures.items)
      (subst (λ (ws : List Winding). AreCarved (cutters c.args.planes.now c.args.plane c.args.faces.now) [] [] ws) (sym c.new-inner.ensures.items) none);
}

pub loop-part-preserved : goal.loop-part-preserved
loop-part-preserved c = record {
  taken = taken_more _ _ _ _ _ _ c.in-Some.part c.loop-part.invariant.taken c.in-Some.ensures.steps.0 c.in-Some.ensures.steps.1;
  carved = subst (λ (ws : List Winding). AreCarved (cutters c.args.planes.now c.args.plane c.args.faces.now) (c.loop-part.yielded ++ c.in-Some.part ∷ []) c.carve.new.left.items ws) (sym c.in_ok-push_some.ensures)
      (carved_by_more c.args.planes.now c.args.plane c.args.faces.now c.loop-part.yielded c.loop-part.left.items c.carve.new.left.items c.loop-part.inner.items c.in-Some.part c.in_ok-found.found c.loop-part.invariant.carved c.in_ok-found.ensures);
}
