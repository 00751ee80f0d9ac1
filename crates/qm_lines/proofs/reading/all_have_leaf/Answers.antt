use Rattle.std.proofs.Common.{All, get_or, subst}
use Rattle.std.proofs.lemmas.List.{take_all}
use Rattle.std.proofs.lemmas.List.Elements.{All-more, All-nil}
use Rattle.qm_sight.specs.InCeiling.{IsInCeiling}
use Rattle.qm_lines.proofs.Asking.{asked_portal, asked_leaf}
use Rattle.qm_lines.proofs.reading.all_have_leaf.Goals as goal

pub loop-portal-init : goal.loop-portal-init
loop-portal-init g c = record {
  have = All-nil (IsInCeiling (g.S.RowSource.ceilings c.args.source.now) c.args.leaf);
  on = g.met.S.RowSource.goes_on_itself c.args.source.now;
}

pub has_leaf-requires : goal.has_leaf-requires
has_leaf-requires g c =
    let world = g.S.RowSource.world c.args.source.now in
    let answered = g.S.RowSource.world c.loop-portal.source in
    let same = g.met.S.RowSource.same_world c.args.source.now c.loop-portal.source c.loop-portal.invariant.on in
    record {
      portal = asked_portal world answered same (get_or c.args.portals.now c.loop-portal.portal-index 0) (c.requires.portals c.loop-portal.portal-index 0 c.loop-portal-test.true);
      leaf = asked_leaf world answered same c.args.leaf c.requires.leaf;
    }

pub loop-portal-preserved : goal.loop-portal-preserved
loop-portal-preserved g c =
    let number = get_or c.args.portals.now c.loop-portal.portal-index 0 in
    record {
      have = All-more (IsInCeiling (g.S.RowSource.ceilings c.args.source.now) c.args.leaf) c.args.portals.now c.loop-portal.portal-index 0 c.loop-portal-test.true c.loop-portal.invariant.have
          (g.met.S.RowSource.narrower c.args.source.now c.loop-portal.source c.loop-portal.invariant.on number c.args.leaf (c.has_leaf.ensures.within c.if-not-has_leaf.false));
      on = g.met.S.RowSource.goes_on_in_turn c.args.source.now c.loop-portal.source c.has_leaf.new.source c.loop-portal.invariant.on c.has_leaf.ensures.on;
    }

pub returns-then-not-has_leaf-clause-on : goal.returns-then-not-has_leaf-clause-on
returns-then-not-has_leaf-clause-on g c = g.met.S.RowSource.goes_on_in_turn c.args.source.now c.loop-portal.source c.has_leaf.new.source c.loop-portal.invariant.on c.has_leaf.ensures.on

pub returns-clause-ceilings : goal.returns-clause-ceilings
returns-clause-ceilings g c is =
    subst (All (IsInCeiling (g.S.RowSource.ceilings c.args.source.now) c.args.leaf)) (take_all c.loop-portal.portal-index c.args.portals.now c.loop-portal-test.false) c.loop-portal.invariant.have

pub returns-clause-on : goal.returns-clause-on
returns-clause-on g c = c.loop-portal.invariant.on
