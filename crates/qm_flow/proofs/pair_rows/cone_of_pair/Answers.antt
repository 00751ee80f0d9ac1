use Rattle.std.proofs.Common.{ℕ, Bool, List, length, sym, ap, ◌∙◌, subst, false}
use Rattle.qm_lists.specs.WorkList.{IsIn}
use Rattle.qm_lists.specs.CutTo.{IsCutTo}
use Rattle.qm_chains.specs.inner.Cone.{IsInCone}
use Rattle.qm_chains.specs.inner.Frame.{Frame}
use Rattle.qm_chains.proofs.PairRows.{none_behind_block}
use Rattle.qm_chains.proofs.Beginnings.{none_clear}
use Rattle.qm_sight.specs.WordInSight.{ceiling_of}
use Rattle.std.proofs.lemmas.List.{length-replicate}
use Rattle.qm_flow.specs.inner.FlowPairs.{pairs_of}
use Rattle.qm_flow.proofs.PairFrames.{row_of_pair}
use Rattle.qm_flow.proofs.Panes.{steps_on, blocked_there}
use Rattle.qm_flow.proofs.pair_rows.cone_of_pair.Goals as goal

pub returns-then-not-leads-clause-has : goal.returns-then-not-leads-clause-has
returns-then-not-leads-clause-has g c n wanted =
    let pairs = (pairs_of c.args.flow.now) in
    let pane = c.pane-pane.ensures in
    absurd (none_behind_block c.args.flow.now.world.now c.requires.own_portals c.args.found.now pairs c.requires.of_world.pairs_are c.args.portal pane.0 pane.1
    (blocked_there c.args.flow.now.world.now.portals c.args.portal c.pane-pane.result.now.winding c.pane-pane.result.now.into pane _ pairs.start c.state-start.ensures (c.in_ok-leads.ensures.blocks c.if-not-leads.true)) n wanted)

pub returns-then-not-leads-clause-within : goal.returns-then-not-leads-clause-within
returns-then-not-leads-clause-within g c n is =
    absurd (none_clear (length c.args.room.now.scratch.cone) n (subst (λ (row : List Bool). IsIn row n) c.clear.ensures is))

pub cone_of-requires-clause-of_world : goal.cone_of-requires-clause-of_world
cone_of-requires-clause-of_world g c = record {
  same_world = g.met.S.RowSource.same_world c.args.source.now c.make_pair_frame.new.source c.make_pair_frame.ensures.on ∙ c.requires.of_world.same_world;
  pairs_are = c.requires.of_world.pairs_are;
  wide = record {
    met = c.make_pair_frame.ensures.frame.met_wide;
    mask = c.make_pair_frame.ensures.frame.narrowed.same_length ∙ c.requires.of_world.pairs_are.seen_wide;
    found = c.requires.of_world.wide.found;
  };
}

pub returns-clause-has : goal.returns-clause-has
returns-clause-has g c =
    let world = c.args.flow.now.world.now in
    let pairs = (pairs_of c.args.flow.now) in
    let found = c.args.found.now in
    let frame = c.make_pair_frame.new.frame in
    let state = c.step_into.new.spare in
    let q = c.to-entered.ensures.value in
    let step = steps_on world.portals c.args.portal c.pane-pane.result.now.winding c.pane-pane.result.now.into c.pane-pane.ensures _ pairs.start c.state-start.ensures q.0 q.1 state (c.in_ok-leads.ensures.leads c.if-not-leads.false) in
    row_of_pair world c.requires.own_portals found pairs c.requires.of_world.pairs_are c.args.portal q.0 q.1
    (ceiling_of (g.S.RowSource.ceilings c.args.source.now) c.args.portal) state frame c.make_pair_frame.ensures.frame step
    c.cone_of.new.scratch.cone c.and_row.new.self
    (subst (λ (m : ℕ). (n : ℕ) → IsInCone world pairs.first frame found m n → IsIn c.cone_of.new.scratch.cone n) q.2 c.in_ok-cone_of.ensures.cone)
    (subst (λ (mask : List Bool). IsCutTo mask c.cone_of.new.scratch.cone c.and_row.new.self) (ap (λ (f : Frame). f.mask) c.spare-2.view_is) c.and_row.ensures)

pub returns-clause-within : goal.returns-clause-within
returns-clause-within g c n there =
    (c.make_pair_frame.ensures.frame.narrowed.within n (subst (λ (mask : List Bool). IsIn mask n) (ap (λ (f : Frame). f.mask) c.spare-2.view_is) ((c.and_row.ensures.exactly n).0 there).1)).1

-- what is asked and kept besides

pub make_pair_frame-requires-clause-first : goal.make_pair_frame-requires-clause-first
make_pair_frame-requires-clause-first g c = c.requires.of_world.pairs_are.first_within

pub make_pair_frame-requires-clause-own : goal.make_pair_frame-requires-clause-own
make_pair_frame-requires-clause-own g c = c.requires.of_world.pairs_are.own_are

pub make_pair_frame-requires-clause-wide : goal.make_pair_frame-requires-clause-wide
make_pair_frame-requires-clause-wide g c = record {
  met = ap (λ (f : Frame). length f.met) c.spare.view_is ∙ c.requires.of_world.wide.met;
  mask = ap (λ (f : Frame). length f.mask) c.spare.view_is ∙ c.requires.of_world.wide.mask;
  found = c.requires.of_world.pairs_are.seen_wide;
}

pub cone_of-requires-clause-entered : goal.cone_of-requires-clause-entered
cone_of-requires-clause-entered g c = c.to-entered.ensures.within

pub cone_of-requires-clause-cone : goal.cone_of-requires-clause-cone
cone_of-requires-clause-cone g c = c.requires.cone

pub returns-in_err-leads-clause-on : goal.returns-in_err-leads-clause-on
returns-in_err-leads-clause-on g c = g.met.S.RowSource.goes_on_itself c.args.source.now

pub returns-then-not-leads-clause-spares : goal.returns-then-not-leads-clause-spares
returns-then-not-leads-clause-spares g c = record {
  met = ap (λ (f : Frame). length f.met) c.spare.view_is ∙ c.requires.of_world.wide.met;
  mask = ap (λ (f : Frame). length f.mask) c.spare.view_is ∙ c.requires.of_world.wide.mask;
  found = ap length c.clear.ensures ∙ length-replicate (length c.args.room.now.scratch.cone) false ∙ c.requires.cone;
}

pub returns-then-not-leads-clause-on : goal.returns-then-not-leads-clause-on
returns-then-not-leads-clause-on g c = g.met.S.RowSource.goes_on_itself c.args.source.now

pub returns-in_err-cone_of-clause-on : goal.returns-in_err-cone_of-clause-on
returns-in_err-cone_of-clause-on g c = g.met.S.RowSource.goes_on_in_turn c.args.source.now c.make_pair_frame.new.source c.cone_of.new.source c.make_pair_frame.ensures.on c.cone_of.ensures.on

pub returns-clause-spares : goal.returns-clause-spares
returns-clause-spares g c = record {
  met = c.make_pair_frame.ensures.frame.met_wide;
  mask = c.make_pair_frame.ensures.frame.narrowed.same_length ∙ c.requires.of_world.pairs_are.seen_wide;
  found = c.and_row.ensures.same_length ∙ c.in_ok-cone_of.ensures.wide;
}

pub returns-clause-on : goal.returns-clause-on
returns-clause-on g c = g.met.S.RowSource.goes_on_in_turn c.args.source.now c.make_pair_frame.new.source c.cone_of.new.source c.make_pair_frame.ensures.on c.cone_of.ensures.on

pub pane-pane-requires : goal.pane-pane-requires
pane-pane-requires g c = c.requires.portal

pub make_pair_frame-requires-clause-portal : goal.make_pair_frame-requires-clause-portal
make_pair_frame-requires-clause-portal g c = c.requires.portal

pub make_pair_frame-requires-clause-same_world : goal.make_pair_frame-requires-clause-same_world
make_pair_frame-requires-clause-same_world g c = c.requires.of_world.same_world

pub to-entered-requires : goal.to-entered-requires
to-entered-requires g c = c.requires.portal

pub and_row-requires : goal.and_row-requires
and_row-requires g c = ap (λ (f : Frame). length f.mask) c.spare-2.view_is ∙ c.make_pair_frame.ensures.frame.narrowed.same_length ∙ c.requires.of_world.pairs_are.seen_wide ∙ sym c.in_ok-cone_of.ensures.wide
