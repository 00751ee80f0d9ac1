use Rattle.std.proofs.Common.{[], ◌<◌, length, get_or, sym, ◌∙◌, subst}
use Rattle.qm_contacts.specs.World.{World}
use Rattle.qm_chains.specs.inner.Pairs.{ArePairs}
use Rattle.qm_flow.specs.inner.FlowPairs.{pairs_of}
use Rattle.qm_flow.proofs.PairsKept.{flow_same, flow_in_turn}
use Rattle.qm_flow.proofs.bars.bar_each.Goals as goal

pub loop-portal-init : goal.loop-portal-init
loop-portal-init g c = record {
  flow = λ found. flow_same (g.S.RowSource.ceilings c.args.source.now) found c.args.flow.now (c.requires.pairs found);
  on = g.met.S.RowSource.goes_on_itself c.args.source.now;
}

pub bar_portal-requires : goal.bar_portal-requires
bar_portal-requires g c =
    let same = (c.loop-portal.invariant.flow []).same_world in
    record {
      portal = subst (λ (w : World). get_or c.args.portals.now c.loop-portal.portal-index 0 < length w.portals) (sym same) (c.requires.portals c.loop-portal.portal-index 0 c.loop-portal-test.true);
      same_world = g.met.S.RowSource.same_world c.args.source.now c.loop-portal.source c.loop-portal.invariant.on ∙ c.requires.same_world ∙ sym same;
      pairs = λ found. subst (λ (w : World). ArePairs w found (pairs_of c.loop-portal.flow)) (sym same) (c.loop-portal.invariant.flow found).pairs.are;
    }

pub loop-portal-preserved : goal.loop-portal-preserved
loop-portal-preserved g c =
    let on = c.loop-portal.invariant.on in
    record {
      flow = λ found. flow_in_turn (g.S.RowSource.ceilings c.args.source.now) (g.S.RowSource.ceilings c.loop-portal.source) found c.args.flow.now c.loop-portal.flow c.bar_portal.new.flow
          (g.met.S.RowSource.narrower c.args.source.now c.loop-portal.source on) (c.loop-portal.invariant.flow found) (c.bar_portal.ensures.flow found);
      on = g.met.S.RowSource.goes_on_in_turn c.args.source.now c.loop-portal.source c.bar_portal.new.source on c.bar_portal.ensures.on;
    }

pub returns-clause-flow : goal.returns-clause-flow
returns-clause-flow g c = c.loop-portal.invariant.flow
