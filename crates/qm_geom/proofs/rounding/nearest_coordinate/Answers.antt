use Rattle.std.proofs.Common.{arith, lit≤}
use mir.Syntax.{w128}
use Rattle.std.proofs.lemmas.Int.{to_z-of_z}
use Rattle.qm_numbers.proofs.Roundings.{nearest_negated}
use Rattle.qm_numbers.proofs.Bits.{negated_32, negated_128}
use Rattle.qm_geom.proofs.rounding.nearest_coordinate.Goals as goal

pub returns-then-over-lt0 : goal.returns-then-over-lt0
returns-then-over-lt0 c =
    let exact = rw (negated_128 c.args.over (let s = c.requires.over_size in omega arith), to_z-of_z w128 c.args.under c.ranges.under) at c.nearest_from_zero.ensures.exact in
    rw (negated_32 c.nearest_from_zero.result _ c.nearest_from_zero.ensures.size (lit≤ tt)) (nearest_negated _ _ _ exact)
