use Rattle.std.proofs.Common.{◌∙◌}
use Rattle.qm_lines.proofs.Drawing.{may_draw_after, drawn_none, drawn_on}
use Rattle.qm_lines.proofs.showing.show_kept.Goals as goal

pub loop-one-init : goal.loop-one-init
loop-one-init g c = drawn_none (g.met.S.RowSource.goes_on_itself _)

pub is_wanted-requires : goal.is_wanted-requires
is_wanted-requires g c = c.loop-one.invariant.shown.same_length ∙ c.requires.may_draw.wide

pub loop-one-preserved-then-not-is_wanted : goal.loop-one-preserved-then-not-is_wanted
loop-one-preserved-then-not-is_wanted g c = c.loop-one.invariant

pub show_again-requires : goal.show_again-requires
show_again-requires g c = record {
  may_draw = may_draw_after c.requires.may_draw (g.met.S.RowSource.same_world _ _) c.loop-one.invariant;
  target = c.is_wanted.ensures c.if-not-is_wanted.false;
}

pub returns-in_err-show_again : goal.returns-in_err-show_again
returns-in_err-show_again g c = drawn_on (g.met.S.RowSource.narrower _ _) (g.met.S.RowSource.goes_on_in_turn _ _ _) c.loop-one.invariant c.show_again.ensures

pub loop-one-preserved : goal.loop-one-preserved
loop-one-preserved g c = drawn_on (g.met.S.RowSource.narrower _ _) (g.met.S.RowSource.goes_on_in_turn _ _ _) c.loop-one.invariant c.show_again.ensures
