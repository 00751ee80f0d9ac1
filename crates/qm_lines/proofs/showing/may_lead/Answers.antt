use Rattle.std.proofs.Common.{◌∙◌}
use Rattle.qm_lines.proofs.Asking.{asked_portal, asked_leaf}
use Rattle.qm_lines.proofs.showing.may_lead.Goals as goal

pub has_leaf-requires : goal.has_leaf-requires
has_leaf-requires g c = record {
  portal = asked_portal c.args.world.now (g.S.RowSource.world c.args.source.now) c.requires.same_world c.args.portal c.requires.portal;
  leaf = asked_leaf c.args.world.now (g.S.RowSource.world c.args.source.now) c.requires.same_world c.args.leaf c.requires.leaf;
}

pub returns-then-not-has_leaf : goal.returns-then-not-has_leaf
returns-then-not-has_leaf g c = c.has_leaf.ensures.on

pub has_leaf-requires-2 : goal.has_leaf-requires-2
has_leaf-requires-2 g c =
    let answered = g.S.RowSource.world c.has_leaf.new.source in
    let same = g.met.S.RowSource.same_world c.args.source.now c.has_leaf.new.source c.has_leaf.ensures.on ∙ c.requires.same_world in
    record {
      portal = asked_portal c.args.world.now answered same c.args.other c.requires.other;
      leaf = asked_leaf c.args.world.now answered same c.args.leaf c.requires.leaf;
    }

pub returns-then-not-has_leaf-2 : goal.returns-then-not-has_leaf-2
returns-then-not-has_leaf-2 g c =
    g.met.S.RowSource.goes_on_in_turn c.args.source.now c.has_leaf.new.source c.has_leaf-2.new.source c.has_leaf.ensures.on c.has_leaf-2.ensures.on

pub may_lead_back-requires : goal.may_lead_back-requires
may_lead_back-requires g c =
    let on = g.met.S.RowSource.goes_on_in_turn c.args.source.now c.has_leaf.new.source c.has_leaf-2.new.source c.has_leaf.ensures.on c.has_leaf-2.ensures.on in
    record {
      portal = c.requires.portal;
      back = c.back.ensures.within;
      same_world = g.met.S.RowSource.same_world c.args.source.now c.has_leaf-2.new.source on ∙ c.requires.same_world;
    }

pub returns : goal.returns
returns g c =
    let in_turn = g.met.S.RowSource.goes_on_in_turn in
    in_turn c.args.source.now c.has_leaf-2.new.source c.may_lead_back.new.source
    (in_turn c.args.source.now c.has_leaf.new.source c.has_leaf-2.new.source c.has_leaf.ensures.on c.has_leaf-2.ensures.on) c.may_lead_back.ensures
