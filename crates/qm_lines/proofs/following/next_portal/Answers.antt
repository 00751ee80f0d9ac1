use Rattle.std.proofs.Common.{◌∙◌}
use Rattle.qm_lines.proofs.following.next_portal.Goals as goal

pub any_onward-requires : goal.any_onward-requires
any_onward-requires g c = record {
  target = c.requires.target;
  own_portals = c.requires.own_portals;
  same_world = g.met.S.RowSource.same_world c.args.source.now c.by_last_exit.new.source c.by_last_exit.ensures.on ∙ c.requires.same_world;
  range = c.requires.range;
}
