use Rattle.std.proofs.Common.{get_or, ◌∙◌}
use Rattle.std.proofs.lemmas.List.Elements.{Contains-get_or}
use Rattle.qm_lines.proofs.following.any_onward.Goals as goal

pub leaving-portal-items-requires : goal.leaving-portal-items-requires
leaving-portal-items-requires g c = c.requires.range.leaf

pub loop-portal-init : goal.loop-portal-init
loop-portal-init g c = record { on = g.met.S.RowSource.goes_on_itself c.args.source.now }

pub onward_by-requires : goal.onward_by-requires
onward_by-requires g c =
    let items = c.leaving-portal-items.result.now in
    let number = get_or items c.loop-portal.portal-index 0 in
    record {
      target = c.requires.target;
      own_portals = c.requires.own_portals;
      same_world = g.met.S.RowSource.same_world c.args.source.now c.loop-portal.source c.loop-portal.invariant.on ∙ c.requires.same_world;
      leaves = (c.leaving-portal-items.ensures.leave number).0 (Contains-get_or items c.loop-portal.portal-index 0 c.loop-portal-test.true);
    }

pub returns-in-Some : goal.returns-in-Some
returns-in-Some g c = record {
  next = c.in-Some.ensures.next;
  on = g.met.S.RowSource.goes_on_in_turn c.args.source.now c.loop-portal.source c.onward_by.new.source c.loop-portal.invariant.on c.onward_by.ensures.on;
}

pub loop-portal-preserved : goal.loop-portal-preserved
loop-portal-preserved g c =
    record { on = g.met.S.RowSource.goes_on_in_turn c.args.source.now c.loop-portal.source c.onward_by.new.source c.loop-portal.invariant.on c.onward_by.ensures.on }

pub returns : goal.returns
returns g c = record { next = tt; on = c.loop-portal.invariant.on }
