use Rattle.std.proofs.Common.{arith}
use Rattle.std.proofs.lemmas.Int.{ints}
use Rattle.qm_narrow.proofs.KeptNormals.{below_zero_is, not_below_zero_is}
use Rattle.qm_narrow.proofs.spot.least_product.Goals as goal

pub returns-then-component-lt0-clause-exact : goal.returns-then-component-lt0-clause-exact
returns-then-component-lt0-clause-exact c =
    let test = c.if-component-lt0.true in let small = c.requires.component_small in
    below_zero_is c.args.component c.args.low c.args.high c.times.result c.requires.component_small c.requires.low_in c.requires.high_in (omega (arith, ints)) c.times.ensures.size c.times.ensures.exact

pub returns-else-component-lt0-clause-exact : goal.returns-else-component-lt0-clause-exact
returns-else-component-lt0-clause-exact c =
    let test = c.if-component-lt0.false in let small = c.requires.component_small in
    not_below_zero_is c.args.component c.args.low c.args.high c.times-else-component-lt0.result c.requires.component_small c.requires.low_in c.requires.high_in (omega (arith, ints)) c.times-else-component-lt0.ensures.size c.times-else-component-lt0.ensures.exact
