use Rattle.std.proofs.Common.{◌≡◌, ◌<◌, Bool, length, sym, ◌∙◌, subst}
use Rattle.std.specs.Bool.{then_some}
use Rattle.std.proofs.lemmas.Result.{IfOk-weaker, on_ok_weaker}
use Rattle.qm_lists.specs.WorkList.{IsIn}
use Rattle.qm_contacts.specs.OwnPortals.{HasOwnPortals}
use Rattle.qm_contacts.specs.Portals.{Portal}
use Rattle.qm_contacts.specs.World.{World}
use Rattle.qm_chains.specs.Shown.{IsAt}
use Rattle.qm_chains.specs.inner.Walk.{AreWide}
use Rattle.qm_flow.specs.inner.FlowPairs.{pairs_of}
use Rattle.qm_flow.specs.inner.FlowGoesOn.{FlowGoesOn}
use Rattle.qm_flow.specs.inner.OfWorld.{AreOfWorld}
use Rattle.qm_flow.specs.inner.Round.{IsTry}
use Rattle.qm_flow.proofs.PairsKept.{flow_same, flow_later, flow_found}
use Rattle.qm_flow.proofs.OfWorlds.{of_world_later}
use Rattle.qm_flow.proofs.Attempts.{try_not_led, try_later}
use Rattle.qm_flow.proofs.tries.try_portal.Goals as goal

pub returns-then-not-passes-clause-tried : goal.returns-then-not-passes-clause-tried
returns-then-not-passes-clause-tried g c =
    try_not_led c.args.flow.now.world.now (g.S.RowSource.ceilings c.args.source.now) (pairs_of c.args.flow.now) c.args.frame.now c.args.portal c.args.found.now (c.in_ok-passes.ensures.none c.if-not-passes.true)

pub returns-then-not-passes-clause-flow : goal.returns-then-not-passes-clause-flow
returns-then-not-passes-clause-flow g c = flow_same (g.S.RowSource.ceilings c.args.source.now) c.args.found.now c.args.flow.now c.requires.of_world.pairs_are

pub returns-then-not-passes-clause-spares : goal.returns-then-not-passes-clause-spares
returns-then-not-passes-clause-spares g c = c.requires.spares

pub own_may_show-requires-clause-of_world : goal.own_may_show-requires-clause-of_world
own_may_show-requires-clause-of_world g c = of_world_later c.args.flow.now.world.now (g.S.RowSource.world c.args.source.now) (g.S.RowSource.world c.passes_cheap_tests.new.source) (pairs_of c.args.flow.now) c.args.frame.now c.args.found.now
    (g.met.S.RowSource.same_world c.args.source.now c.passes_cheap_tests.new.source c.passes_cheap_tests.ensures.on) c.requires.of_world

pub returns-then-not-may-clause-tried : goal.returns-then-not-may-clause-tried
returns-then-not-may-clause-tried g c =
    try_not_led c.args.flow.now.world.now (g.S.RowSource.ceilings c.args.source.now) (pairs_of c.args.flow.now) c.args.frame.now c.args.portal c.args.found.now (c.in_ok-may.ensures.none c.if-not-may.true)

pub returns-then-not-may-clause-spares : goal.returns-then-not-may-clause-spares
returns-then-not-may-clause-spares g c = c.in_ok-may.ensures.spares

pub returns-then-not-may-clause-flow : goal.returns-then-not-may-clause-flow
returns-then-not-may-clause-flow g c = flow_later (g.S.RowSource.ceilings c.args.source.now) (g.S.RowSource.ceilings c.passes_cheap_tests.new.source) c.args.found.now c.args.flow.now c.own_may_show.new.flow
    (g.met.S.RowSource.narrower c.args.source.now c.passes_cheap_tests.new.source c.passes_cheap_tests.ensures.on) c.in_ok-may.ensures.flow

-- the chain goes on: the flow has gone on meanwhile, in the same world

pub go_through-requires : goal.go_through-requires
go_through-requires g c =
    let go = c.in_ok-may.ensures.flow in
    let later : (w : World) → w ≡ c.args.flow.now.world.now → AreOfWorld w (g.S.RowSource.world c.own_may_show.new.source) (pairs_of c.own_may_show.new.flow) c.args.frame.now c.args.found.now =
    λ w same. subst (λ (world : World). AreOfWorld world (g.S.RowSource.world c.own_may_show.new.source) (pairs_of c.own_may_show.new.flow) c.args.frame.now c.args.found.now) (sym same)
    (record {
      same_world = g.met.S.RowSource.same_world c.passes_cheap_tests.new.source c.own_may_show.new.source c.own_may_show.ensures.on
          ∙ g.met.S.RowSource.same_world c.args.source.now c.passes_cheap_tests.new.source c.passes_cheap_tests.ensures.on ∙ c.requires.of_world.same_world;
      pairs_are = go.pairs.are;
      wide = c.requires.of_world.wide;
    }) in
    record {
      portal = subst (λ (w : World). c.args.portal < length w.portals) (sym go.same_world) c.requires.portal;
      own_portals = subst HasOwnPortals (sym go.same_world) c.requires.own_portals;
      of_world = later c.own_may_show.new.flow.world.now go.same_world;
      spares = subst (λ (w : World). AreWide w c.own_may_show.new.room.next c.own_may_show.new.room.scratch.cone) (sym go.same_world) c.in_ok-may.ensures.spares;
      new = subst (λ (w : World). (q : Portal) → IsAt w.portals c.args.portal q → IsIn c.args.frame.now.met q.to → ⊥) (sym go.same_world) (c.in_ok-passes.ensures.new c.if-not-passes.false);
    }

pub returns-clause-tried : goal.returns-clause-tried
returns-clause-tried g c =
    let old = c.args.flow.now in
    let new = c.own_may_show.new.flow in
    let frame = c.args.frame.now in
    let now = g.S.RowSource.ceilings c.args.source.now in
    let before = g.S.RowSource.ceilings c.own_may_show.new.source in
    let go = c.in_ok-may.ensures.flow in
    let on = g.met.S.RowSource.goes_on_in_turn c.args.source.now c.passes_cheap_tests.new.source c.own_may_show.new.source c.passes_cheap_tests.ensures.on c.own_may_show.ensures.on in
    let Child = λ (on : Bool). then_some on c.go_through.new.room.next in
    IfOk-weaker c.go_through.result
    (λ on. IsTry new.world.now before (pairs_of new) frame c.args.portal c.args.found.now c.go_through.new.found (Child on))
    (λ on. IsTry old.world.now now (pairs_of old) frame c.args.portal c.args.found.now c.go_through.new.found (Child on))
    (λ b tried. try_later now before (g.S.RowSource.ceilings c.passes_cheap_tests.new.source) c.args.found.now old new frame c.args.portal c.args.found.now c.go_through.new.found (Child b)
    (g.met.S.RowSource.narrower c.args.source.now c.own_may_show.new.source on) (g.met.S.RowSource.narrower c.args.source.now c.passes_cheap_tests.new.source c.passes_cheap_tests.ensures.on) go tried)
    c.go_through.ensures.tried

pub returns-clause-spares : goal.returns-clause-spares
returns-clause-spares g c =
    let Wide = λ (w : World). AreWide w c.go_through.new.room.next c.go_through.new.room.scratch.cone in
    on_ok_weaker {P = Wide c.own_may_show.new.flow.world.now} {Q = Wide c.args.flow.now.world.now} c.go_through.result (λ wide. subst Wide c.in_ok-may.ensures.flow.same_world wide) c.go_through.ensures.spares

pub returns-clause-flow : goal.returns-clause-flow
returns-clause-flow g c =
    let now = g.S.RowSource.ceilings c.args.source.now in
    on_ok_weaker {P = AreWide c.own_may_show.new.flow.world.now c.go_through.new.room.next c.go_through.new.room.scratch.cone} {Q = FlowGoesOn now c.go_through.new.found c.args.flow.now c.own_may_show.new.flow} c.go_through.result
    (λ wide. flow_found now c.args.found.now c.go_through.new.found c.args.flow.now c.own_may_show.new.flow c.go_through.ensures.stays
    (flow_later now (g.S.RowSource.ceilings c.passes_cheap_tests.new.source) c.args.found.now c.args.flow.now c.own_may_show.new.flow
    (g.met.S.RowSource.narrower c.args.source.now c.passes_cheap_tests.new.source c.passes_cheap_tests.ensures.on) c.in_ok-may.ensures.flow))
    c.go_through.ensures.spares

pub returns-in_err-may-clause-on : goal.returns-in_err-may-clause-on
returns-in_err-may-clause-on g c = g.met.S.RowSource.goes_on_in_turn c.args.source.now c.passes_cheap_tests.new.source c.own_may_show.new.source c.passes_cheap_tests.ensures.on c.own_may_show.ensures.on

pub returns-then-not-may-clause-on : goal.returns-then-not-may-clause-on
returns-then-not-may-clause-on g c = g.met.S.RowSource.goes_on_in_turn c.args.source.now c.passes_cheap_tests.new.source c.own_may_show.new.source c.passes_cheap_tests.ensures.on c.own_may_show.ensures.on

pub returns-clause-on : goal.returns-clause-on
returns-clause-on g c = g.met.S.RowSource.goes_on_in_turn c.args.source.now c.own_may_show.new.source c.go_through.new.source
    (g.met.S.RowSource.goes_on_in_turn c.args.source.now c.passes_cheap_tests.new.source c.own_may_show.new.source c.passes_cheap_tests.ensures.on c.own_may_show.ensures.on) c.go_through.ensures.on
