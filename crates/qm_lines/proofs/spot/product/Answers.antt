use Rattle.std.proofs.Common.{◌≤◌, ◌^◌, ℤ, sym, subst, unsigned_abs}
use Rattle.qm_numbers.proofs.Kept.{wide_fits, wide_is}
use Rattle.qm_lines.proofs.Values.{wide_size}
use Rattle.qm_lines.proofs.spot.product.Goals as goal

pub overflow_mul-result : goal.overflow_mul-result
overflow_mul-result c = wide_fits _ _ _ _ c.from.ensures c.from-2.ensures c.ranges.first c.ranges.second

pub returns-clause-exact : goal.returns-clause-exact
returns-clause-exact c = wide_is _ _ _ _ c.from.ensures c.from-2.ensures c.ranges.first c.ranges.second

pub returns-clause-size : goal.returns-clause-size
returns-clause-size c =
    subst (λ (z : ℤ). unsigned_abs z ≤ 2 ^ 108) (sym (returns-clause-exact c)) (wide_size c.args.first c.args.second c.ranges.first c.requires)
