use Rattle.std.proofs.Common.{◌∙◌, ap, length, sym, true}
use Rattle.std.proofs.lemmas.List.{length-set}
use Rattle.qm_lines.proofs.Drawing.{may_draw_after, has_place, drawn_on}
use Rattle.qm_lines.proofs.showing.flood.Goals as goal

pub to-entered-requires : goal.to-entered-requires
to-entered-requires g c = c.requires.may_draw.portal

pub set-requires : goal.set-requires
set-requires g c = has_place _ c.requires.may_draw c.requires.gone c.to-entered.ensures.within

pub aim_out-requires : goal.aim_out-requires
aim_out-requires g c = record { may_draw = c.requires.may_draw; leaf = c.to-entered.ensures.within }

pub loop-init : goal.loop-init
loop-init g c = record {
  drawn = c.aim_out.ensures;
  gone = ap length c.set.ensures ∙ length-set c.args.gone.now c.to-entered.result true;
}

pub has_new-requires : goal.has_new-requires
has_new-requires g c = c.loop.invariant.gone ∙ c.requires.gone ∙ sym c.loop.invariant.drawn.shown.same_length

pub sweep-requires : goal.sweep-requires
sweep-requires g c = record {
  may_draw = may_draw_after c.requires.may_draw (g.met.S.RowSource.same_world _ _) c.loop.invariant.drawn;
  gone = c.loop.invariant.gone ∙ c.requires.gone ∙ sym c.loop.invariant.drawn.shown.same_length;
}

pub returns-in_err-sweep : goal.returns-in_err-sweep
returns-in_err-sweep g c = drawn_on (g.met.S.RowSource.narrower _ _) (g.met.S.RowSource.goes_on_in_turn _ _ _) c.loop.invariant.drawn c.sweep.ensures.drawn

pub loop-preserved : goal.loop-preserved
loop-preserved g c = record {
  drawn = drawn_on (g.met.S.RowSource.narrower _ _) (g.met.S.RowSource.goes_on_in_turn _ _ _) c.loop.invariant.drawn c.sweep.ensures.drawn;
  gone = c.sweep.ensures.gone ∙ c.loop.invariant.gone;
}
