use Rattle.std.proofs.Common.{refl}
use Rattle.qm_lines.proofs.Drawing.{may_draw_on, has_place, drawn_none, drawn_on}
use Rattle.qm_lines.proofs.showing.aim_through.Goals as goal

pub to-target-requires : goal.to-target-requires
to-target-requires g c = c.requires.other

pub get-requires : goal.get-requires
get-requires g c = has_place _ c.requires.may_draw refl c.to-target.ensures.within

pub returns-then-get : goal.returns-then-get
returns-then-get g c = drawn_none (g.met.S.RowSource.goes_on_itself _)

pub may_lead-requires : goal.may_lead-requires
may_lead-requires g c = record {
  portal = c.requires.may_draw.portal;
  other = c.requires.other;
  leaf = c.to-target.ensures.within;
  same_world = c.requires.may_draw.same_world;
}

pub returns-then-not-may_lead : goal.returns-then-not-may_lead
returns-then-not-may_lead g c = drawn_none c.may_lead.ensures

pub list_aims-requires : goal.list_aims-requires
list_aims-requires g c = c.requires.other

pub returns-in_err-list_aims : goal.returns-in_err-list_aims
returns-in_err-list_aims g c = drawn_none c.may_lead.ensures

pub aim_at-requires : goal.aim_at-requires
aim_at-requires g c = record {
  may_draw = may_draw_on c.requires.may_draw (g.met.S.RowSource.same_world _ _ c.may_lead.ensures) refl;
  target = c.to-target.ensures.within;
}

pub returns : goal.returns
returns g c = drawn_on (g.met.S.RowSource.narrower _ _) (g.met.S.RowSource.goes_on_in_turn _ _ _) (drawn_none c.may_lead.ensures) c.aim_at.ensures
