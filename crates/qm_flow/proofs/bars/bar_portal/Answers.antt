use Rattle.std.proofs.Common.{false, Some, [], replicate, arith, refl}
use Rattle.qm_flow.specs.inner.FlowPairs.{pairs_of}
use Rattle.qm_flow.proofs.PairsKept.{flow_same, own_put}
use Rattle.qm_flow.proofs.Barred.{pairs_barred}
use Rattle.qm_flow.proofs.bars.bar_portal.Goals as goal

pub is_unseen-requires-clause-first : goal.is_unseen-requires-clause-first
is_unseen-requires-clause-first g c = (c.requires.pairs []).first_within

pub returns-then-not-is_unseen-clause-flow : goal.returns-then-not-is_unseen-clause-flow
returns-then-not-is_unseen-clause-flow g c found = flow_same (g.S.RowSource.ceilings c.args.source.now) found c.args.flow.now (c.requires.pairs found)

pub bar-requires : goal.bar-requires
bar-requires g c =
    let one = (c.requires.pairs []).own_are.one_each in
    let within = c.requires.portal in
    omega (arith, one, within)

pub returns-clause-flow : goal.returns-clause-flow
returns-clause-flow g c found =
    let one = (c.requires.pairs []).own_are.one_each in
    let within = c.requires.portal in
    record {
      same_world = refl;
      pairs = pairs_barred c.args.flow.now.world.now (g.S.RowSource.ceilings c.args.source.now) (pairs_of c.args.flow.now) _ c.args.portal c.leaves-leaves.result c.leaves-leaves.ensures (own_put (pairs_of c.args.flow.now) (pairs_of c.args.flow.now) c.bar.new.self c.args.portal (Some (replicate c.leaves-leaves.result false)) refl c.bar.ensures) (omega (arith, one, within))
          ((c.is_unseen.ensures.unseen c.if-not-is_unseen.false)) found (c.requires.pairs found);
    }
