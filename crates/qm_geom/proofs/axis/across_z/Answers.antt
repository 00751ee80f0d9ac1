use Rattle.std.proofs.Common.{sym, subst}
use Rattle.qm_space.specs.Reduced.{IsReduced}
use Rattle.qm_geom.proofs.Axes.{z_kept, z_is_plane}
use Rattle.qm_geom.proofs.axis.across_z.Goals as goal

pub returns : goal.returns
returns c = z_kept c.args.coordinate c.of-place.result.under c.of-place.result.over c.requires c.of-place.ensures.under c.of-place.ensures.over

pub invariant_of-result : goal.invariant_of-result
invariant_of-result c =
    subst IsReduced (sym (z_kept c.args.coordinate c.of-place.result.under c.of-place.result.over c.requires c.of-place.ensures.under c.of-place.ensures.over)) (z_is_plane c.args.coordinate c.requires)
