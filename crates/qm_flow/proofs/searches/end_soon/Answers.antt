use Rattle.std.proofs.Common.{◌≡◌, ◌<◌, [], List, length, refl, sym, ◌∙◌, subst, arith}
use Rattle.std.proofs.lemmas.Grind.{common_steps}
use Rattle.std.proofs.lemmas.List.{nil_from_length}
use Rattle.qm_contacts.specs.OwnPortals.{HasOwnPortals}
use Rattle.qm_contacts.specs.World.{World}
use Rattle.qm_chains.specs.inner.Frame.{Frame}
use Rattle.qm_chains.specs.inner.Pairs.{ArePairs}
use Rattle.qm_flow.specs.inner.FlowPairs.{pairs_of}
use Rattle.qm_flow.specs.inner.Round.{AreReady, IsRound}
use Rattle.qm_flow.specs.inner.SearchSoFar.{IsSearchVia}
use Rattle.qm_flow.specs.inner.Spares.{AreSparesWide}
use Rattle.qm_flow.proofs.SearchRounds.{search_ready, search_round}
use Rattle.qm_flow.proofs.searches.end_soon.Goals as goal

pub loop-init : goal.loop-init
loop-init g c = record {
  so_far = λ number found before. before;
  world = refl;
  first = refl;
  pairs = c.requires.search.so_far.pairs_are;
  spares = c.requires.spares;
  on = g.met.S.RowSource.goes_on_itself c.args.source.now;
}

pub go_round-requires : goal.go_round-requires
go_round-requires g c =
    let its = c.requires.search in
    let looks = c.args.looks.now.flow.now in
    let now = c.loop.looks.flow.now in
    let same = c.loop.invariant.world in
    let frames = c.loop.stack.frames.items in
    let ready = search_ready looks.world.now (pairs_of looks) its.number its.found frames c.loop.sighted (c.loop.invariant.so_far its.number its.found its.so_far) (pairs_of now) c.loop.invariant.pairs in
    let some : 0 < length frames = (let empty = c.is_empty.ensures in let test = c.if-is_empty.false in let ok = c.loop.stack.frames.ok.0 in grind (arith, common_steps)) in
    λ lifetimes. (
      (refl, tt),
      (
        subst HasOwnPortals (sym same) c.requires.own_portals,
        (
          g.met.S.RowSource.same_world c.args.source.now c.loop.source c.loop.invariant.on ∙ c.requires.same_world ∙ sym same,
          (
            subst (λ (w : World). AreReady w (pairs_of now) frames c.loop.sighted) (sym same) ready,
            (some, subst (λ (w : World). AreSparesWide w c.loop.stack) (sym same) c.loop.invariant.spares),
          ),
        ),
      ),
    )

pub loop-preserved : goal.loop-preserved
loop-preserved g c =
    let world = c.args.looks.now.flow.now.world.now in
    let pairs = (pairs_of c.args.looks.now.flow.now) in
    let same = c.loop.invariant.world in
    let went = c.in_ok-go_round.ensures in
    let later = (pairs_of c.loop.looks.flow.now) in
    let frames = c.loop.stack.frames.items in
    let after = c.go_round.new.stack.frames.items in
    let new = c.go_round.new.found in
    let now = g.S.RowSource.ceilings c.loop.source in
    let round = subst (λ (w : World). IsRound w now later frames after c.loop.sighted new) same went.round in
    record {
      so_far = λ number found before. search_round world pairs number found frames c.loop.sighted (c.loop.invariant.so_far number found before) now later c.loop.invariant.first after new round;
      world = went.flow.same_world ∙ same;
      first = went.flow.pairs.same_first ∙ c.loop.invariant.first;
      pairs = subst (λ (w : World). ArePairs w new (pairs_of c.go_round.new.tries.flow.now)) same went.flow.pairs.are;
      spares = subst (λ (w : World). AreSparesWide w c.go_round.new.stack) same went.spares;
      on = g.met.S.RowSource.goes_on_in_turn c.args.source.now c.loop.source c.go_round.new.source c.loop.invariant.on c.go_round.ensures.on;
    }

pub returns-clause-on : goal.returns-clause-on
returns-clause-on g c = c.loop.invariant.on

pub returns-in_err-go_round-clause-on : goal.returns-in_err-go_round-clause-on
returns-in_err-go_round-clause-on g c = g.met.S.RowSource.goes_on_in_turn c.args.source.now c.loop.source c.go_round.new.source c.loop.invariant.on c.go_round.ensures.on

pub returns-clause-ended : goal.returns-clause-ended
returns-clause-ended g c is number found before =
    let none : c.loop.stack.frames.items ≡ [] = nil_from_length c.loop.stack.frames.items (let empty = c.is_empty-2.ensures in let test = is in let ok = c.loop.stack.frames.ok.0 in grind (arith, common_steps)) in
    subst (λ (frames : List Frame). IsSearchVia c.args.looks.now.flow.now.world.now (pairs_of c.args.looks.now.flow.now) number found frames c.loop.sighted) none
    (c.loop.invariant.so_far number found before)

pub returns-clause-wide : goal.returns-clause-wide
returns-clause-wide g c =
    let its = c.requires.search in
    (c.loop.invariant.so_far its.number its.found its.so_far).search.wide ∙ sym its.so_far.search.wide
