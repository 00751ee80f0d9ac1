use Rattle.std.proofs.Common.{◌≡◌, length, sym, ◌∙◌, subst, arith}
use Rattle.std.proofs.lemmas.Option.{slice_get_within}
use Rattle.qm_contacts.specs.NumberedLeaves.{numbered_leaves}
use Rattle.qm_contacts.specs.World.{World}
use Rattle.qm_sight.specs.InCeiling.{IsInCeiling}
use Rattle.qm_lines.specs.inner.Trace.{AreInRange}
use Rattle.qm_lines.proofs.Traces.{row_shows, row_long, entered_range, trace_goes_on, gains_more}
use Rattle.qm_lines.proofs.following.follow.Goals as goal

pub show-requires : goal.show-requires
show-requires g c = record {
  range = subst (λ (w : World). AreInRange w c.args.trace.now) (sym c.requires.same_world) c.requires.range;
  row = subst (λ (w : World). length c.args.row.now ≡ length (numbered_leaves w.tree)) (sym c.requires.same_world) c.requires.row;
}

pub loop-init : goal.loop-init
loop-init g c =
    let leaf = c.requires.range.leaf in
    let wide = c.requires.row in
    let ceilings = g.S.RowSource.ceilings c.args.source.now in
    record {
      range = c.requires.range;
      long = row_long _ c.args.trace.now.leaf c.args.row.now c.show.new.row c.show.ensures.shown ∙ c.requires.row;
      trace = λ p is. is;
      shown = λ p is. row_shows c.args.course.now.world.now c.requires.own_portals p c.args.course.now.line.now (IsInCeiling ceilings) (IsInCeiling ceilings c.args.trace.now.leaf) c.args.trace.now
          (λ number has. has) is c.args.row.now c.show.new.row (omega (arith, leaf, wide)) c.show.ensures.shown;
      on = c.show.ensures.on;
    }

pub next_portal-requires : goal.next_portal-requires
next_portal-requires g c = record {
  target = c.requires.target;
  own_portals = c.requires.own_portals;
  same_world = g.met.S.RowSource.same_world c.args.source.now c.loop.source c.loop.invariant.on ∙ c.requires.same_world;
  range = c.loop.invariant.range;
}

pub returns-in-None : goal.returns-in-None
returns-in-None g c = record {
  shown = c.loop.invariant.shown;
  on = g.met.S.RowSource.goes_on_in_turn c.args.source.now c.loop.source c.next_portal.new.source c.loop.invariant.on c.next_portal.ensures.on;
}

pub enter-requires : goal.enter-requires
enter-requires g c = slice_get_within c.args.course.now.world.now.portals c.in-Some.next.portal _ c.in-Some.ensures.next.crosses.portal_is

pub returns-in_err-enter-in-Some : goal.returns-in_err-enter-in-Some
returns-in_err-enter-in-Some g c = record {
  shown = c.loop.invariant.shown;
  on = g.met.S.RowSource.goes_on_in_turn c.args.source.now c.loop.source c.next_portal.new.source c.loop.invariant.on c.next_portal.ensures.on;
}

pub show-requires-in-Some : goal.show-requires-in-Some
show-requires-in-Some g c =
    let onward = c.in-Some.ensures.next in
    let on = g.met.S.RowSource.goes_on_in_turn c.args.source.now c.loop.source c.next_portal.new.source c.loop.invariant.on c.next_portal.ensures.on in
    let same = sym (g.met.S.RowSource.same_world c.args.source.now c.next_portal.new.source on ∙ c.requires.same_world) in
    record {
      range = subst (λ (w : World). AreInRange w c.enter.new.self) same
          (entered_range c.args.course.now.world.now c.loop.trace c.enter.new.self c.in-Some.next.portal c.in-Some.next.crossing c.loop.invariant.range c.in_ok-enter-in-Some.ensures
          (slice_get_within c.args.course.now.world.now.portals c.in-Some.next.portal _ onward.crosses.portal_is));
      row = subst (λ (w : World). length c.loop.row ≡ length (numbered_leaves w.tree)) same c.loop.invariant.long;
    }

pub loop-preserved : goal.loop-preserved
loop-preserved g c =
    let world = c.args.course.now.world.now in
    let own = c.requires.own_portals in
    let s = c.args.course.now.line.now in
    let onward = c.in-Some.ensures.next in
    let entered = c.in_ok-enter-in-Some.ensures in
    let leaf = entered.within in
    let wide = c.loop.invariant.long in
    let new = c.enter.new.self in
    let ceilings = g.S.RowSource.ceilings c.args.source.now in
    let on = g.met.S.RowSource.goes_on_in_turn c.args.source.now c.loop.source c.next_portal.new.source c.loop.invariant.on c.next_portal.ensures.on in
    record {
      range = entered_range world c.loop.trace new c.in-Some.next.portal c.in-Some.next.crossing c.loop.invariant.range entered
          (slice_get_within world.portals c.in-Some.next.portal _ onward.crosses.portal_is);
      long = row_long _ new.leaf c.loop.row c.show-in-Some.new.row c.show-in-Some.ensures.shown ∙ c.loop.invariant.long;
      trace = λ p is. trace_goes_on world own p s c.loop.trace new c.in-Some.next.portal c.in-Some.next.crossing (c.loop.invariant.trace p is) onward entered;
      shown = λ p is. gains_more world.portals (IsInCeiling ceilings) p c.args.row.now c.loop.row c.show-in-Some.new.row (c.loop.invariant.shown p is)
          (row_shows world own p s (IsInCeiling ceilings) (IsInCeiling (g.S.RowSource.ceilings c.next_portal.new.source) new.leaf) new
          (λ number has. g.met.S.RowSource.narrower c.args.source.now c.next_portal.new.source on number new.leaf has)
          (trace_goes_on world own p s c.loop.trace new c.in-Some.next.portal c.in-Some.next.crossing (c.loop.invariant.trace p is) onward entered)
          c.loop.row c.show-in-Some.new.row (omega (arith, leaf, wide)) c.show-in-Some.ensures.shown);
      on = g.met.S.RowSource.goes_on_in_turn c.args.source.now c.next_portal.new.source c.show-in-Some.new.source on c.show-in-Some.ensures.on;
    }

pub returns : goal.returns
returns g c = record { shown = c.loop.invariant.shown; on = c.loop.invariant.on }
