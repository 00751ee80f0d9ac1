use Rattle.std.proofs.Common.{ℕ, Bool, List, [], ◌∷◌, length, sym, ap, ◌∙◌, subst, arith}
use Rattle.qm_contacts.specs.World.{AreLeaving}
use Rattle.qm_chains.specs.inner.Frame.{Frame}
use Rattle.qm_chains.proofs.TriedPortals.{FindsLast}
use Rattle.qm_sight.specs.WordInSight.{ceiling_of}
use Rattle.qm_flow.specs.inner.FlowPairs.{pairs_of}
use Rattle.qm_flow.specs.inner.SearchSoFar.{IsSearchVia}
use Rattle.qm_flow.proofs.PairFrames.{none_sought, search_begins_there}
use Rattle.qm_flow.proofs.Panes.{steps_on, blocked_there}
use Rattle.qm_flow.proofs.searches.make_first.Goals as goal

pub returns-then-not-leads-clause-begun : goal.returns-then-not-leads-clause-begun
returns-then-not-leads-clause-begun g c =
    let pairs = (pairs_of c.args.flow.now) in
    let pane = c.pane-pane.ensures in
    none_sought c.args.flow.now.world.now c.requires.own_portals c.args.sighted.now pairs c.requires.pairs c.args.portal pane.0 pane.1 c.requires.wide
    (blocked_there c.args.flow.now.world.now.portals c.args.portal c.pane-pane.result.now.winding c.pane-pane.result.now.into pane _ pairs.start c.state-start.ensures (c.in_ok-leads.ensures.blocks c.if-not-leads.true))

pub returns-clause-begun : goal.returns-clause-begun
returns-clause-begun g c =
    let world = c.args.flow.now.world.now in
    let pairs = (pairs_of c.args.flow.now) in
    let found = c.args.sighted.now in
    let frame = c.make_pair_frame.new.frame in
    let state = c.step_into.new.spare in
    let q = c.to-entered.ensures.value in
    let within = c.to-entered.ensures.within in
    let wide = c.requires.wide in
    let same = q.2 in
    let step = steps_on world.portals c.args.portal c.pane-pane.result.now.winding c.pane-pane.result.now.into c.pane-pane.ensures _ pairs.start c.state-start.ensures q.0 q.1 state (c.in_ok-leads.ensures.leads c.if-not-leads.false) in
    let untried = c.leaving-next-inside.result.now in
    subst (λ (f : Frame). IsSearchVia world pairs c.args.portal found (record { state = f.state; untried = untried; met = f.met; mask = f.mask } ∷ []) c.find.new.row) (sym c.next-2.view_is)
    (search_begins_there world c.requires.own_portals found pairs c.requires.pairs c.args.portal q.0 q.1 wide
    (ceiling_of (g.S.RowSource.ceilings c.args.source.now) c.args.portal) state frame c.make_pair_frame.ensures.frame step
    untried
    (subst (λ (n : ℕ). AreLeaving world.portals n c.leaving-next-inside.result.now) q.2 c.leaving-next-inside.ensures)
    c.find.new.row (omega (arith, within, wide, same))
    (subst (λ (n : ℕ). FindsLast frame.mask n found c.find.new.row) q.2
    (subst (λ (mask : List Bool). FindsLast mask c.to-entered.result found c.find.new.row) (ap (λ (f : Frame). f.mask) c.next-2.view_is) c.find.ensures)))

-- what is asked and kept besides

pub make_pair_frame-requires-clause-first : goal.make_pair_frame-requires-clause-first
make_pair_frame-requires-clause-first g c = c.requires.pairs.first_within

pub make_pair_frame-requires-clause-own : goal.make_pair_frame-requires-clause-own
make_pair_frame-requires-clause-own g c = c.requires.pairs.own_are

pub make_pair_frame-requires-clause-wide : goal.make_pair_frame-requires-clause-wide
make_pair_frame-requires-clause-wide g c = record {
  met = ap (λ (f : Frame). length f.met) c.next.view_is ∙ c.requires.spares.met;
  mask = ap (λ (f : Frame). length f.mask) c.next.view_is ∙ c.requires.spares.mask;
  found = c.requires.pairs.seen_wide;
}

pub returns-in_err-leads-clause-on : goal.returns-in_err-leads-clause-on
returns-in_err-leads-clause-on g c = g.met.S.RowSource.goes_on_itself c.args.source.now

pub returns-then-not-leads-clause-spares : goal.returns-then-not-leads-clause-spares
returns-then-not-leads-clause-spares g c = record {
  met = ap (λ (f : Frame). length f.met) c.next.view_is ∙ c.requires.spares.met;
  mask = ap (λ (f : Frame). length f.mask) c.next.view_is ∙ c.requires.spares.mask;
  found = c.requires.spares.found;
}

pub returns-then-not-leads-clause-on : goal.returns-then-not-leads-clause-on
returns-then-not-leads-clause-on g c = g.met.S.RowSource.goes_on_itself c.args.source.now

pub returns-clause-on : goal.returns-clause-on
returns-clause-on g c = c.make_pair_frame.ensures.on
