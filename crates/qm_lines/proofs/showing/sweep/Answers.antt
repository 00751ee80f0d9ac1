use Rattle.std.proofs.Common.{◌<◌, ◌∙◌, ap, length, refl, subst, true}
use Rattle.std.proofs.lemmas.List.{length-set}
use Rattle.qm_lines.proofs.Drawing.{may_draw_after, has_place, drawn_none, drawn_on}
use Rattle.qm_lines.proofs.showing.sweep.Goals as goal

pub loop-leaf-init : goal.loop-leaf-init
loop-leaf-init g c = record { drawn = drawn_none (g.met.S.RowSource.goes_on_itself _); gone = refl }

pub get-requires : goal.get-requires
get-requires g c = has_place _ c.requires.may_draw c.loop-leaf.invariant.drawn.shown.same_length (subst (λ n. c.loop-leaf.leaf < n) c.leaves-leaf-end.ensures c.loop-leaf-test.true)

pub get-requires-in-loop-leaf : goal.get-requires-in-loop-leaf
get-requires-in-loop-leaf g c = has_place _ c.requires.may_draw (c.loop-leaf.invariant.gone ∙ c.requires.gone) (subst (λ n. c.loop-leaf.leaf < n) c.leaves-leaf-end.ensures c.loop-leaf-test.true)

pub loop-leaf-preserved-then-not-get : goal.loop-leaf-preserved-then-not-get
loop-leaf-preserved-then-not-get g c = c.loop-leaf.invariant

pub loop-leaf-preserved-then-get : goal.loop-leaf-preserved-then-get
loop-leaf-preserved-then-get g c = c.loop-leaf.invariant

pub set-requires : goal.set-requires
set-requires g c = has_place _ c.requires.may_draw (c.loop-leaf.invariant.gone ∙ c.requires.gone) (subst (λ n. c.loop-leaf.leaf < n) c.leaves-leaf-end.ensures c.loop-leaf-test.true)

pub aim_out-requires : goal.aim_out-requires
aim_out-requires g c = record {
  may_draw = may_draw_after c.requires.may_draw (g.met.S.RowSource.same_world _ _) c.loop-leaf.invariant.drawn;
  leaf = subst (λ n. c.loop-leaf.leaf < n) c.leaves-leaf-end.ensures c.loop-leaf-test.true;
}

pub returns-in_err-aim_out : goal.returns-in_err-aim_out
returns-in_err-aim_out g c = record {
  drawn = drawn_on (g.met.S.RowSource.narrower _ _) (g.met.S.RowSource.goes_on_in_turn _ _ _) c.loop-leaf.invariant.drawn c.aim_out.ensures;
  gone = ap length c.set.ensures ∙ length-set c.loop-leaf.gone c.loop-leaf.leaf true ∙ c.loop-leaf.invariant.gone;
}

pub loop-leaf-preserved : goal.loop-leaf-preserved
loop-leaf-preserved g c = record {
  drawn = drawn_on (g.met.S.RowSource.narrower _ _) (g.met.S.RowSource.goes_on_in_turn _ _ _) c.loop-leaf.invariant.drawn c.aim_out.ensures;
  gone = ap length c.set.ensures ∙ length-set c.loop-leaf.gone c.loop-leaf.leaf true ∙ c.loop-leaf.invariant.gone;
}
