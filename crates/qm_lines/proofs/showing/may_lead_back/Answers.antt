use Rattle.std.proofs.Common.{◌∙◌}
use Rattle.qm_lines.proofs.Asking.{asked_portal, asked_leaf}
use Rattle.qm_lines.proofs.showing.may_lead_back.Goals as goal

pub from-requires : goal.from-requires
from-requires g c = c.requires.portal

pub has_leaf-requires : goal.has_leaf-requires
has_leaf-requires g c =
    let answered = g.S.RowSource.world c.args.source.now in
    record {
      portal = asked_portal c.args.world.now answered c.requires.same_world c.args.back c.requires.back;
      leaf = asked_leaf c.args.world.now answered c.requires.same_world c.from.result c.from.ensures.within;
    }

pub returns-then-not-has_leaf : goal.returns-then-not-has_leaf
returns-then-not-has_leaf g c = c.has_leaf.ensures.on

pub to-requires : goal.to-requires
to-requires g c = c.requires.portal

pub has_leaf-requires-2 : goal.has_leaf-requires-2
has_leaf-requires-2 g c =
    let answered = g.S.RowSource.world c.has_leaf.new.source in
    let same = g.met.S.RowSource.same_world c.args.source.now c.has_leaf.new.source c.has_leaf.ensures.on ∙ c.requires.same_world in
    record {
      portal = asked_portal c.args.world.now answered same c.args.back c.requires.back;
      leaf = asked_leaf c.args.world.now answered same c.to.result c.to.ensures.within;
    }

pub returns : goal.returns
returns g c = g.met.S.RowSource.goes_on_in_turn c.args.source.now c.has_leaf.new.source c.has_leaf-2.new.source c.has_leaf.ensures.on c.has_leaf-2.ensures.on
