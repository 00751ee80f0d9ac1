use Rattle.std.proofs.Common.{◌≤◌, ℤ, sym, subst, unsigned_abs, arith}
use Rattle.qm_numbers.proofs.Kept.{narrow_fits, narrow_is}
use Rattle.qm_space.specs.Bounds.{product_bound}
use Rattle.qm_space.proofs.CoordinateSizes.{coordinate_small}
use Rattle.qm_space.proofs.Cuboids.{product_small}
use Rattle.qm_lines.proofs.line.times.Goals as goal

pub overflow_mul-result : goal.overflow_mul-result
overflow_mul-result c =
    let small = coordinate_small c.args.coordinate c.requires.coordinate in
    narrow_fits c.from.result c.from-2.result c.args.component c.args.coordinate c.from.ensures c.from-2.ensures c.requires.component (omega arith)

pub returns-clause-exact : goal.returns-clause-exact
returns-clause-exact c =
    let small = coordinate_small c.args.coordinate c.requires.coordinate in
    narrow_is c.from.result c.from-2.result c.args.component c.args.coordinate c.from.ensures c.from-2.ensures c.requires.component (omega arith)

pub returns-clause-size : goal.returns-clause-size
returns-clause-size c =
    subst (λ (z : ℤ). unsigned_abs z ≤ product_bound) (sym (returns-clause-exact c)) (product_small c.args.component c.args.coordinate c.requires.component c.requires.coordinate)
