use Rattle.std.proofs.Common.{◌∙◌, sym}
use Rattle.qm_numbers.proofs.Kept.{widened_32}
use Rattle.qm_geom.proofs.Axes.{coordinate_held, whole_over, whole_under, whole_fits}
use Rattle.qm_geom.proofs.axis.Fraction.of.Goals as goal

pub returns-in-Some-clause-over : goal.returns-in-Some-clause-over
returns-in-Some-clause-over c =
    widened_32 c.from.result c.in-Some.whole c.from.ensures (whole_fits c.in-Some.whole c.in-Some.ensures.0)
    ∙ whole_over c.args.coordinate c.in-Some.whole (sym (coordinate_held c.args.coordinate c.requires) ∙ c.in-Some.ensures.1)

pub returns-in-Some-clause-under : goal.returns-in-Some-clause-under
returns-in-Some-clause-under c = whole_under c.args.coordinate c.in-Some.whole (sym (coordinate_held c.args.coordinate c.requires) ∙ c.in-Some.ensures.1)
