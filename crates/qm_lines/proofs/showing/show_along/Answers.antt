use Rattle.qm_lines.proofs.Drawing.{drawn_none}
use Rattle.qm_lines.proofs.showing.show_along.Goals as goal

pub crossing_of-requires : goal.crossing_of-requires
crossing_of-requires g c = record { portal = c.requires.may_draw.portal; own_portals = c.requires.may_draw.own_portals }

pub returns-in-None : goal.returns-in-None
returns-in-None g c = drawn_none (g.met.S.RowSource.goes_on_itself _)

pub begin-requires : goal.begin-requires
begin-requires g c = record { portal = c.requires.may_draw.portal; own_portals = c.requires.may_draw.own_portals }

pub returns-in_err-begin-in-Some : goal.returns-in_err-begin-in-Some
returns-in_err-begin-in-Some g c = drawn_none (g.met.S.RowSource.goes_on_itself _)

pub follow-requires : goal.follow-requires
follow-requires g c = record {
  target = c.requires.target;
  own_portals = c.requires.may_draw.own_portals;
  same_world = c.requires.may_draw.same_world;
  range = c.in_ok-begin-in-Some.ensures.range;
  row = c.requires.may_draw.wide;
}

pub returns-in_ok-begin-in-Some : goal.returns-in_ok-begin-in-Some
returns-in_ok-begin-in-Some g c = record {
  shown = c.follow.ensures.shown c.args.first.now.portal (c.in_ok-begin-in-Some.ensures.trace c.args.line.now c.in-Some.ensures);
  on = c.follow.ensures.on;
}
