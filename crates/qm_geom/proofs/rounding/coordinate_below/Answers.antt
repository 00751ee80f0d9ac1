use mir.Syntax.{w128}
use Rattle.std.proofs.lemmas.Int.{to_z-of_z}
use Rattle.qm_numbers.proofs.Roundings.{down_small}
use Rattle.qm_numbers.proofs.Bits.{narrowed_32, fits_32}
use Rattle.qm_geom.proofs.rounding.coordinate_below.Goals as goal

pub overflow_cast-result : goal.overflow_cast-result
overflow_cast-result c =
    let exact = rw (to_z-of_z w128 c.args.over c.ranges.over, to_z-of_z w128 c.args.under c.ranges.under) at c.rounded_down.ensures.exact in
    fits_32 c.rounded_down.result (down_small _ _ _ _ c.requires.positive c.requires.small exact)

pub returns : goal.returns
returns c =
    let exact = rw (to_z-of_z w128 c.args.over c.ranges.over, to_z-of_z w128 c.args.under c.ranges.under) at c.rounded_down.ensures.exact in
    rw (narrowed_32 c.rounded_down.result (down_small _ _ _ _ c.requires.positive c.requires.small exact)) exact
