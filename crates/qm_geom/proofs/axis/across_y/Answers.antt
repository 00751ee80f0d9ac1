use Rattle.std.proofs.Common.{sym, subst}
use Rattle.qm_space.specs.Reduced.{IsReduced}
use Rattle.qm_geom.proofs.Axes.{y_kept, y_is_plane}
use Rattle.qm_geom.proofs.axis.across_y.Goals as goal

pub returns : goal.returns
returns c = y_kept c.args.coordinate c.of-place.result.under c.of-place.result.over c.requires c.of-place.ensures.under c.of-place.ensures.over

pub invariant_of-result : goal.invariant_of-result
invariant_of-result c =
    subst IsReduced (sym (y_kept c.args.coordinate c.of-place.result.under c.of-place.result.over c.requires c.of-place.ensures.under c.of-place.ensures.over)) (y_is_plane c.args.coordinate c.requires)
