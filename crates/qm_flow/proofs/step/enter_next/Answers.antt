use Rattle.std.proofs.Common.{◌<◌, ℕ, true, List, Bool, length, set, sym, ap, ◌∙◌, subst, arith, ⊎_elim}
use Rattle.std.specs.Bool.{then_some}
use Rattle.std.proofs.lemmas.Result.{IfOk-weaker}
use Rattle.std.proofs.lemmas.List.{length-set}
use Rattle.qm_contacts.specs.NumberedLeaves.{numbered_leaves}
use Rattle.qm_contacts.specs.World.{AreLeaving}
use Rattle.qm_chains.specs.inner.Cone.{IsLeftOf}
use Rattle.qm_chains.specs.inner.Frame.{Frame, blocked}
use Rattle.qm_chains.proofs.PairRows.{pairs_stay}
use Rattle.qm_chains.proofs.TriedPortals.{looked_stopped, FindsLast}
use Rattle.qm_flow.specs.inner.FlowPairs.{pairs_of}
use Rattle.qm_flow.specs.inner.Round.{TriesBy}
use Rattle.qm_flow.proofs.Attempts.{try_none}
use Rattle.qm_flow.proofs.FoundRows.{found_stays}
use Rattle.qm_flow.proofs.GoneThrough.{try_left}
use Rattle.qm_flow.proofs.Panes.{steps_on, blocked_there}
use Rattle.qm_flow.proofs.step.enter_next.Goals as goal

pub returns-then-not-leads-clause-tried : goal.returns-then-not-leads-clause-tried
returns-then-not-leads-clause-tried g c now narrowed =
    let pane = c.pane-pane.ensures in
    try_none c.args.flow.now.world.now now (pairs_of c.args.flow.now) c.args.frame.now c.args.portal c.args.found.now
    (looked_stopped c.args.flow.now.world.now c.args.flow.now.first c.args.frame.now c.args.portal c.args.found.now pane.0 pane.1
    (blocked (blocked_there c.args.flow.now.world.now.portals c.args.portal c.pane-pane.result.now.winding c.pane-pane.result.now.into pane c.frame.inside.state c.args.frame.now.state (ap (λ (f : Frame). f.state) c.frame.view_is)
    (c.in_ok-leads.ensures.blocks c.if-not-leads.true))))

-- the step does not block: the chain goes on with what its cone leaves of its mask
pub returns-clause-tried : goal.returns-clause-tried
returns-clause-tried g c =
    let world = c.args.flow.now.world.now in
    let pairs = pairs_of c.args.flow.now in
    let frame = c.args.frame.now in
    let portal = c.args.portal in
    let found = c.args.found.now in
    let row = c.find.new.row in
    let mask = c.args.room.now.next.mask in
    let same_mask = ap (λ (f : Frame). f.mask) c.next.view_is in
    let next = c.left_of.new.frame in
    let q = c.to-entered.ensures.value in
    let within : q.0.to < length (numbered_leaves world.tree) = subst (λ (n : ℕ). n < length (numbered_leaves world.tree)) q.2 c.to-entered.ensures.within in
    let step = steps_on world.portals portal c.pane-pane.result.now.winding c.pane-pane.result.now.into c.pane-pane.ensures c.frame.inside.state frame.state (ap (λ (f : Frame). f.state) c.frame.view_is) q.0 q.1 c.step_into.new.spare
    (c.in_ok-leads.ensures.leads c.if-not-leads.false) in
    let same_met = c.copy_from.ensures ∙ ap (λ (f : Frame). f.met) c.frame.view_is in
    let met_is = c.set.ensures ∙ ap (λ (met : List Bool). set met c.to-entered.result true) same_met ∙ ap (λ (n : ℕ). set frame.met n true) q.2 in
    let leaving = subst (λ (n : ℕ). AreLeaving world.portals n c.leaving-next-inside.result.now) q.2 c.leaving-next-inside.ensures in
    let finds = subst (λ (n : ℕ). FindsLast mask n found row) q.2 (subst (λ (m : List Bool). FindsLast m c.to-entered.result found row) same_mask c.find.ensures) in
    let child : List Bool → Frame = λ m. record { state = c.step_into.new.spare; untried = c.leaving-next-inside.result.now; met = c.set.new.self; mask = m } in
    let IsLeft = λ (m : List Bool) (n : ℕ) (left : Bool). IsLeftOf world pairs.first (child m) row n (then_some left next) in
    IfOk-weaker c.left_of.result (IsLeft c.next.inside.mask c.to-entered.result) (λ on. TriesBy world pairs frame portal mask found row (then_some on next))
    (λ left its now narrowed. try_left world pairs frame portal found c.requires.of_world.pairs_are c.requires.of_world.wide mask now narrowed q.0 q.1 within (c.requires.new q.0 q.1)
    c.step_into.new.spare step row finds c.requires.own_portals c.set.new.self met_is c.leaving-next-inside.result.now leaving (then_some left next)
    (subst (λ (m : List Bool). IsLeft m q.0.to left) same_mask (subst (λ (n : ℕ). IsLeft c.next.inside.mask n left) q.2 its)))
    c.left_of.ensures.left

pub returns-clause-spares : goal.returns-clause-spares
returns-clause-spares g c = c.left_of.ensures.wide

pub returns-clause-stays : goal.returns-clause-stays
returns-clause-stays g c =
    let within = c.to-entered.ensures.within in
    let wide = c.requires.of_world.wide.found in
    found_stays c.args.found.now c.find.new.row c.next.inside.mask c.to-entered.result (omega (arith, within, wide)) c.find.ensures

pub returns-clause-on : goal.returns-clause-on
returns-clause-on g c = c.left_of.ensures.on

-- what is asked and kept besides

pub copy_from-requires : goal.copy_from-requires
copy_from-requires g c = ap (λ (f : Frame). length f.met) c.frame.view_is ∙ c.requires.of_world.wide.met ∙ sym (ap (λ (f : Frame). length f.met) c.next.view_is ∙ c.requires.spares.met)

pub set-requires : goal.set-requires
set-requires g c =
    let within = c.to-entered.ensures.within in
    let wide = ap length c.copy_from.ensures ∙ ap (λ (f : Frame). length f.met) c.frame.view_is ∙ c.requires.of_world.wide.met in
    omega (arith, within, wide)

pub find-requires-clause-row : goal.find-requires-clause-row
find-requires-clause-row g c = let within = c.to-entered.ensures.within in let wide = c.requires.of_world.wide.found in omega (arith, within, wide)

pub find-requires-clause-mask : goal.find-requires-clause-mask
find-requires-clause-mask g c =
    let within = c.to-entered.ensures.within in
    let wide = ap (λ (f : Frame). length f.mask) c.next.view_is ∙ c.requires.spares.mask in
    omega (arith, within, wide)

pub left_of-requires-clause-entered : goal.left_of-requires-clause-entered
left_of-requires-clause-entered g c = c.to-entered.ensures.within

pub left_of-requires-clause-of_world : goal.left_of-requires-clause-of_world
left_of-requires-clause-of_world g c = let within = c.to-entered.ensures.within in let row_wide = c.requires.of_world.wide.found in record {
  same_world = c.requires.of_world.same_world;
  pairs_are = pairs_stay c.args.flow.now.world.now c.args.found.now c.find.new.row (pairs_of c.args.flow.now)
      (found_stays c.args.found.now c.find.new.row c.next.inside.mask c.to-entered.result (omega (arith, within, row_wide)) c.find.ensures) c.requires.of_world.pairs_are;
  wide = record {
    met = ap length c.set.ensures ∙ length-set c.copy_from.new.self c.to-entered.result true ∙ ap length c.copy_from.ensures ∙ ap (λ (f : Frame). length f.met) c.frame.view_is ∙ c.requires.of_world.wide.met;
    mask = ap (λ (f : Frame). length f.mask) c.next.view_is ∙ c.requires.spares.mask;
    found = ⊎_elim (λ it. ap length it.1 ∙ length-set c.args.found.now c.to-entered.result true) (λ kept. ap length kept.1) c.find.ensures ∙ c.requires.of_world.wide.found;
  };
}

pub left_of-requires-clause-cone : goal.left_of-requires-clause-cone
left_of-requires-clause-cone g c = c.requires.spares.found

pub returns-then-not-leads-clause-spares : goal.returns-then-not-leads-clause-spares
returns-then-not-leads-clause-spares g c = record {
  met = ap (λ (f : Frame). length f.met) c.next.view_is ∙ c.requires.spares.met;
  mask = ap (λ (f : Frame). length f.mask) c.next.view_is ∙ c.requires.spares.mask;
  found = c.requires.spares.found;
}

pub returns-then-not-leads-clause-on : goal.returns-then-not-leads-clause-on
returns-then-not-leads-clause-on g c = g.met.S.RowSource.goes_on_itself c.args.source.now

pub returns-in_err-leads-clause-on : goal.returns-in_err-leads-clause-on
returns-in_err-leads-clause-on g c = g.met.S.RowSource.goes_on_itself c.args.source.now
