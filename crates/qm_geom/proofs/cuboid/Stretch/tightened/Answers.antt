use Rattle.std.proofs.Common.{arith}
use Rattle.std.proofs.lemmas.Int.{ints}
use Rattle.qm_geom.proofs.Cuboids.{from_quotient, up_to_quotient}
use Rattle.qm_geom.proofs.cuboid.Stretch.tightened.Goals as goal

pub returns-then-component-gt0 : goal.returns-then-component-gt0
returns-then-component-gt0 c =
    let test = c.if-component-gt0.true in let small = c.requires.component_small in
    from_quotient c.from-then-component-gt0.result c.args.self c.args.component c.args.least c.rounded_down.result c.from.result
    c.requires.component_small c.requires.least_small c.rounded_down.ensures.size c.from.ensures
    (omega (arith, ints)) c.rounded_down.ensures.exact c.from-then-component-gt0.ensures

pub returns-then-component-lt0 : goal.returns-then-component-lt0
returns-then-component-lt0 c =
    let test = c.if-component-lt0.true in let small = c.requires.component_small in
    up_to_quotient c.up_to.result c.args.self c.args.component c.args.least c.rounded_down-then-component-lt0.result c.from-then-component-lt0.result
    c.requires.component_small c.requires.least_small c.rounded_down-then-component-lt0.ensures.size c.from-then-component-lt0.ensures
    (omega (arith, ints)) c.rounded_down-then-component-lt0.ensures.exact c.up_to.ensures
