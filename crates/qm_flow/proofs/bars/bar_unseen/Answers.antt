use Rattle.std.proofs.Common.{[], ◌<◌, length, sym, ◌∙◌, subst, arith}
use Rattle.qm_contacts.specs.NumberedLeaves.{numbered_leaves}
use Rattle.qm_contacts.specs.World.{World}
use Rattle.qm_chains.specs.inner.Pairs.{ArePairs}
use Rattle.qm_flow.specs.inner.FlowPairs.{pairs_of}
use Rattle.qm_flow.proofs.PairsKept.{flow_same, flow_in_turn}
use Rattle.qm_flow.proofs.bars.bar_unseen.Goals as goal

pub loop-leaf-init : goal.loop-leaf-init
loop-leaf-init g c = record {
  flow = λ found. flow_same (g.S.RowSource.ceilings c.args.source.now) found c.args.flow.now (c.requires.pairs found);
  on = g.met.S.RowSource.goes_on_itself c.args.source.now;
}

pub bar_at-requires : goal.bar_at-requires
bar_at-requires g c =
    let test = c.loop-leaf-test.true in
    let count = c.leaves-leaf-end.ensures in
    let same = (c.loop-leaf.invariant.flow []).same_world in
    record {
      leaf = subst (λ (w : World). c.loop-leaf.leaf < length (numbered_leaves w.tree)) (sym same) (omega (arith, test, count));
      same_world = g.met.S.RowSource.same_world c.args.source.now c.loop-leaf.source c.loop-leaf.invariant.on ∙ c.requires.same_world ∙ sym same;
      pairs = λ found. subst (λ (w : World). ArePairs w found (pairs_of c.loop-leaf.flow)) (sym same) (c.loop-leaf.invariant.flow found).pairs.are;
    }

pub loop-leaf-preserved : goal.loop-leaf-preserved
loop-leaf-preserved g c =
    let on = c.loop-leaf.invariant.on in
    record {
      flow = λ found. flow_in_turn (g.S.RowSource.ceilings c.args.source.now) (g.S.RowSource.ceilings c.loop-leaf.source) found c.args.flow.now c.loop-leaf.flow c.bar_at.new.flow
          (g.met.S.RowSource.narrower c.args.source.now c.loop-leaf.source on) (c.loop-leaf.invariant.flow found) (c.bar_at.ensures.flow found);
      on = g.met.S.RowSource.goes_on_in_turn c.args.source.now c.loop-leaf.source c.bar_at.new.source on c.bar_at.ensures.on;
    }

pub returns-clause-flow : goal.returns-clause-flow
returns-clause-flow g c = c.loop-leaf.invariant.flow
