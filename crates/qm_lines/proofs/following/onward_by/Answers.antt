use Rattle.std.proofs.lemmas.Option.{slice_get_within}
use Rattle.qm_lines.proofs.Asking.{asked_portal, asked_leaf}
use Rattle.qm_lines.proofs.following.onward_by.Goals as goal

pub has_leaf-requires : goal.has_leaf-requires
has_leaf-requires g c =
    let q = c.requires.leaves in
    record {
      portal = asked_portal c.args.course.now.world.now (g.S.RowSource.world c.args.source.now) c.requires.same_world c.args.portal (slice_get_within c.args.course.now.world.now.portals c.args.portal q.0 q.1);
      leaf = asked_leaf c.args.course.now.world.now (g.S.RowSource.world c.args.source.now) c.requires.same_world c.args.course.now.target c.requires.target;
    }

pub further-requires : goal.further-requires
further-requires g c =
    let q = c.requires.leaves in
    record { portal = slice_get_within c.args.course.now.world.now.portals c.args.portal q.0 q.1; own_portals = c.requires.own_portals; leaves = q }
