use Rattle.std.proofs.Common.{lit≤}
use mir.Syntax.{w128}
use Rattle.std.proofs.lemmas.Int.{to_z-of_z}
use Rattle.qm_numbers.proofs.Roundings.{up_from_down, up_small}
use Rattle.qm_numbers.proofs.Bits.{negated_64, negated_128}
use Rattle.qm_geom.proofs.rounding.rounded_up.Goals as goal

pub returns-clause-exact : goal.returns-clause-exact
returns-clause-exact c =
    let down = rw (negated_128 c.args.over c.requires.over_small, to_z-of_z w128 c.args.under c.ranges.under) at c.rounded_down.ensures.exact in
    rw (negated_64 c.rounded_down.result _ c.rounded_down.ensures.size (lit≤ tt)) (up_from_down c.args.over c.args.under c.rounded_down.result down)

pub returns-clause-size : goal.returns-clause-size
returns-clause-size c = up_small _ _ _ _ c.requires.under_positive c.requires.fraction_small (returns-clause-exact c)
