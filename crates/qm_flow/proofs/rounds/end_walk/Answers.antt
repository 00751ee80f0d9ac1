use Rattle.std.proofs.Common.{◌≡◌, ◌<◌, [], List, length, refl, sym, ◌∙◌, subst, arith}
use Rattle.std.proofs.lemmas.Grind.{common_steps}
use Rattle.std.proofs.lemmas.List.{nil_from_length}
use Rattle.qm_contacts.specs.OwnPortals.{HasOwnPortals}
use Rattle.qm_contacts.specs.World.{World}
use Rattle.qm_chains.specs.inner.Frame.{Frame}
use Rattle.qm_flow.specs.inner.FlowPairs.{pairs_of}
use Rattle.qm_flow.specs.inner.PairsGoOn.{PairsGoOn}
use Rattle.qm_flow.specs.inner.Round.{AreReady, IsRound}
use Rattle.qm_flow.specs.inner.Spares.{AreSparesWide}
use Rattle.qm_flow.specs.inner.WalkSoFar.{IsWalkSoFar}
use Rattle.qm_flow.proofs.WalkRounds.{walk_ready, walk_round, less_round}
use Rattle.qm_flow.proofs.rounds.end_walk.Goals as goal

pub loop-flow-init : goal.loop-flow-init
loop-flow-init g c = record {
  so_far = λ p ceilings lie before. before;
  world = refl;
  spares = c.requires.spares;
  on = g.met.S.RowSource.goes_on_itself c.args.source.now;
}

pub go_round-requires : goal.go_round-requires
go_round-requires g c =
    let its = c.requires.walk in
    let same = c.loop-flow.invariant.world in
    let frames = c.loop-flow.stack.frames.items in
    let ready = walk_ready c.args.flow.now.world.now its.ceilings its.p (pairs_of c.loop-flow.flow) frames c.loop-flow.found (c.loop-flow.invariant.so_far its.p its.ceilings its.below its.so_far) in
    let some : 0 < length frames = (let empty = c.is_empty.ensures in let test = c.loop-flow-test.true in let ok = c.loop-flow.stack.frames.ok.0 in grind (arith, common_steps)) in
    λ lifetimes. (
      (refl, tt),
      (
        subst HasOwnPortals (sym same) c.requires.own_portals,
        (
          g.met.S.RowSource.same_world c.args.source.now c.loop-flow.source c.loop-flow.invariant.on ∙ c.requires.same_world ∙ sym same,
          (
            subst (λ (w : World). AreReady w (pairs_of c.loop-flow.flow) frames c.loop-flow.found) (sym same) ready,
            (some, subst (λ (w : World). AreSparesWide w c.loop-flow.stack) (sym same) c.loop-flow.invariant.spares),
          ),
        ),
      ),
    )

pub loop-flow-preserved : goal.loop-flow-preserved
loop-flow-preserved g c =
    let world = c.args.flow.now.world.now in
    let same = c.loop-flow.invariant.world in
    let went = c.in_ok-go_round.ensures in
    let pairs = (pairs_of c.loop-flow.flow) in
    let frames = c.loop-flow.stack.frames.items in
    let after = c.go_round.new.stack.frames.items in
    let new = c.go_round.new.found in
    let now = g.S.RowSource.ceilings c.loop-flow.source in
    let round = subst (λ (w : World). IsRound w now pairs frames after c.loop-flow.found new) same went.round in
    let go = subst (λ (w : World). PairsGoOn w now new pairs (pairs_of c.go_round.new.tries)) same went.flow.pairs in
    record {
      so_far = λ p ceilings lie before. walk_round world ceilings p pairs frames c.loop-flow.found (c.loop-flow.invariant.so_far p ceilings lie before) now
          (λ place n is. lie place n (g.met.S.RowSource.narrower c.args.source.now c.loop-flow.source c.loop-flow.invariant.on place n is)) after new round (pairs_of c.go_round.new.tries) go;
      world = went.flow.same_world ∙ same;
      spares = subst (λ (w : World). AreSparesWide w c.go_round.new.stack) same went.spares;
      on = g.met.S.RowSource.goes_on_in_turn c.args.source.now c.loop-flow.source c.go_round.new.source c.loop-flow.invariant.on c.go_round.ensures.on;
    }

pub loop-flow-smaller : goal.loop-flow-smaller
loop-flow-smaller g c =
    let world = c.args.flow.now.world.now in
    let its = c.requires.walk in
    let same = c.loop-flow.invariant.world in
    let pairs = (pairs_of c.loop-flow.flow) in
    let frames = c.loop-flow.stack.frames.items in
    let after = c.go_round.new.stack.frames.items in
    let now = g.S.RowSource.ceilings c.loop-flow.source in
    less_round world its.ceilings its.p pairs frames c.loop-flow.found (c.loop-flow.invariant.so_far its.p its.ceilings its.below its.so_far) now
    (λ place n is. its.below place n (g.met.S.RowSource.narrower c.args.source.now c.loop-flow.source c.loop-flow.invariant.on place n is)) after c.go_round.new.found
    (subst (λ (w : World). IsRound w now pairs frames after c.loop-flow.found c.go_round.new.found) same c.in_ok-go_round.ensures.round)

pub returns-clause-on : goal.returns-clause-on
returns-clause-on g c = c.loop-flow.invariant.on

pub returns-in_err-go_round-clause-on : goal.returns-in_err-go_round-clause-on
returns-in_err-go_round-clause-on g c = g.met.S.RowSource.goes_on_in_turn c.args.source.now c.loop-flow.source c.go_round.new.source c.loop-flow.invariant.on c.go_round.ensures.on

pub returns-clause-walk : goal.returns-clause-walk
returns-clause-walk g c p ceilings lie before =
    let none : c.loop-flow.stack.frames.items ≡ [] = nil_from_length c.loop-flow.stack.frames.items (let empty = c.is_empty.ensures in let test = c.loop-flow-test.false in let ok = c.loop-flow.stack.frames.ok.0 in grind (arith, common_steps)) in
    subst (λ (frames : List Frame). IsWalkSoFar c.args.flow.now.world.now ceilings p (pairs_of c.loop-flow.flow) frames c.loop-flow.found) none
    (c.loop-flow.invariant.so_far p ceilings lie before)
