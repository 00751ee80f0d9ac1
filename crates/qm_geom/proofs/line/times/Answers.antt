use Rattle.std.proofs.Common.{◌≤◌, ◌^◌, ℤ, sym, subst, lit≤, unsigned_abs}
use Rattle.qm_numbers.proofs.Kept.{long_fits, long_is, long_size}
use Rattle.qm_geom.proofs.line.times.Goals as goal

pub overflow_mul-result : goal.overflow_mul-result
overflow_mul-result c = long_fits _ _ _ _ c.from.ensures c.ranges.first c.ranges.second c.requires (lit≤ tt)

pub returns-clause-exact : goal.returns-clause-exact
returns-clause-exact c = long_is _ _ _ _ c.from.ensures c.ranges.first c.ranges.second c.requires (lit≤ tt)

pub returns-clause-size : goal.returns-clause-size
returns-clause-size c =
    subst (λ (z : ℤ). unsigned_abs z ≤ 2 ^ 124) (sym (returns-clause-exact c)) (long_size c.args.first c.args.second _ c.requires)
