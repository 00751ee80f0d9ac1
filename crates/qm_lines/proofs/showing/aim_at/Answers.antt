use Rattle.qm_lines.proofs.Drawing.{may_draw_after, has_place, drawn_none, drawn_on}
use Rattle.qm_lines.proofs.showing.aim_at.Goals as goal

pub loop-place-init : goal.loop-place-init
loop-place-init g c = drawn_none (g.met.S.RowSource.goes_on_itself _)

pub get-requires : goal.get-requires
get-requires g c = has_place _ c.requires.may_draw c.loop-place.invariant.shown.same_length c.requires.target

pub returns-in-None : goal.returns-in-None
returns-in-None g c = c.loop-place.invariant

pub show_aim-requires : goal.show_aim-requires
show_aim-requires g c = record {
  may_draw = may_draw_after c.requires.may_draw (g.met.S.RowSource.same_world _ _) c.loop-place.invariant;
  target = c.requires.target;
}

pub returns-in_err-show_aim : goal.returns-in_err-show_aim
returns-in_err-show_aim g c = drawn_on (g.met.S.RowSource.narrower _ _) (g.met.S.RowSource.goes_on_in_turn _ _ _) c.loop-place.invariant c.show_aim.ensures

pub loop-place-preserved : goal.loop-place-preserved
loop-place-preserved g c = drawn_on (g.met.S.RowSource.narrower _ _) (g.met.S.RowSource.goes_on_in_turn _ _ _) c.loop-place.invariant c.show_aim.ensures
