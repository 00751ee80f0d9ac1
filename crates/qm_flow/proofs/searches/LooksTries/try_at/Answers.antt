use Rattle.std.proofs.lemmas.Result.{on_ok_weaker}
use Rattle.qm_chains.specs.inner.Walk.{AreWide}
use Rattle.qm_flow.specs.inner.FlowGoesOn.{FlowGoesOn}
use Rattle.qm_flow.proofs.PairsKept.{flow_same, flow_found}
use Rattle.qm_flow.proofs.searches.LooksTries.try_at.Goals as goal

pub returns-clause-flow : goal.returns-clause-flow
returns-clause-flow g c =
    let flow = c.args.self.now.flow.now in
    let now = g.S.RowSource.ceilings c.args.source.now in
    let new = c.look_through.new.sighted in
    on_ok_weaker {P = AreWide flow.world.now c.look_through.new.room.next c.look_through.new.room.scratch.cone} {Q = FlowGoesOn now new flow flow} c.look_through.result
    (λ wide. flow_found now c.args.found.now new flow flow c.look_through.ensures.stays (flow_same now c.args.found.now flow c.requires.of_world.pairs_are)) c.look_through.ensures.spares
