use Rattle.std.proofs.Common.{arith}
use Rattle.std.proofs.lemmas.Int.{ints}
use Rattle.qm_narrow.proofs.Beams.{least_below, least_not_below}
use Rattle.qm_narrow.proofs.crossing.least_product.Goals as goal

pub returns-then-number-lt0 : goal.returns-then-number-lt0
returns-then-number-lt0 c =
    let test = c.if-number-lt0.true in let fits = c.ranges.number.sfits in
    least_below c.args.number c.args.low c.args.high c.product.result c.ranges.number c.ranges.low c.ranges.high (record { sfits = c.product.type_inv }) (omega (arith, ints)) c.product.ensures

pub returns-else-number-lt0 : goal.returns-else-number-lt0
returns-else-number-lt0 c =
    let test = c.if-number-lt0.false in let fits = c.ranges.number.sfits in
    least_not_below c.args.number c.args.low c.args.high c.product-else-number-lt0.result c.ranges.number c.ranges.low c.ranges.high (record { sfits = c.product-else-number-lt0.type_inv }) (omega (arith, ints)) c.product-else-number-lt0.ensures
