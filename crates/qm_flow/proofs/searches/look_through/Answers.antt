use Rattle.std.proofs.Common.{Bool, List}
use Rattle.std.specs.Bool.{then_some}
use Rattle.std.proofs.lemmas.Result.{IfOk-weaker}
use Rattle.qm_flow.specs.inner.FlowPairs.{pairs_of}
use Rattle.qm_flow.specs.inner.Round.{IsTry}
use Rattle.qm_flow.proofs.Attempts.{try_not_led}
use Rattle.qm_flow.proofs.OfWorlds.{of_world_later}
use Rattle.qm_flow.proofs.searches.look_through.Goals as goal

pub returns-then-not-passes-clause-tried : goal.returns-then-not-passes-clause-tried
returns-then-not-passes-clause-tried g c =
    try_not_led c.args.flow.now.world.now (g.S.RowSource.ceilings c.args.source.now) (pairs_of c.args.flow.now) c.args.frame.now c.args.portal c.args.sighted.now (c.in_ok-passes.ensures.none c.if-not-passes.true)

pub returns-clause-tried : goal.returns-clause-tried
returns-clause-tried g c =
    let world = c.args.flow.now.world.now in
    let pairs = (pairs_of c.args.flow.now) in
    let now = g.S.RowSource.ceilings c.args.source.now in
    let before = g.S.RowSource.ceilings c.passes_cheap_tests.new.source in
    let Try = λ (ceilings : List (List Bool)) (on : Bool). IsTry world ceilings pairs c.args.frame.now c.args.portal c.args.sighted.now c.go_through.new.found (then_some on c.go_through.new.room.next) in
    IfOk-weaker c.go_through.result (Try before) (Try now)
    (λ on tried. record {
      looked = tried.looked;
      tried = λ ceilings lie. tried.tried ceilings (λ place n is. lie place n (g.met.S.RowSource.narrower c.args.source.now c.passes_cheap_tests.new.source c.passes_cheap_tests.ensures.on place n is));
    })
    c.go_through.ensures.tried

pub returns-then-not-passes-clause-spares : goal.returns-then-not-passes-clause-spares
returns-then-not-passes-clause-spares g c = c.requires.spares

pub go_through-requires-clause-of_world : goal.go_through-requires-clause-of_world
go_through-requires-clause-of_world g c = of_world_later c.args.flow.now.world.now (g.S.RowSource.world c.args.source.now) (g.S.RowSource.world c.passes_cheap_tests.new.source) (pairs_of c.args.flow.now) c.args.frame.now c.args.sighted.now
    (g.met.S.RowSource.same_world c.args.source.now c.passes_cheap_tests.new.source c.passes_cheap_tests.ensures.on) c.requires.of_world

pub go_through-requires-clause-new : goal.go_through-requires-clause-new
go_through-requires-clause-new g c = c.in_ok-passes.ensures.new c.if-not-passes.false

pub returns-clause-on : goal.returns-clause-on
returns-clause-on g c = g.met.S.RowSource.goes_on_in_turn c.args.source.now c.passes_cheap_tests.new.source c.go_through.new.source c.passes_cheap_tests.ensures.on c.go_through.ensures.on
