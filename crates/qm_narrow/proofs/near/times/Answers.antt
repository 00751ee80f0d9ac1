use Rattle.std.proofs.Common.{◌≤◌, ◌*◌, ◌^◌, ℤ, mul-le-mul, sym, subst, unsigned_abs, lit≤}
use Rattle.qm_numbers.proofs.Kept.{long_fits, long_is, long_size}
use Rattle.qm_narrow.proofs.near.times.Goals as goal

many : (c : goal.After-from) → unsigned_abs c.args.down * unsigned_abs c.args.under ≤ 3 * 2 ^ 95
many c = mul-le-mul c.requires.down_size c.requires.under_size

pub overflow_mul-result : goal.overflow_mul-result
overflow_mul-result c = long_fits c.from.result c.args.down c.args.under (3 * 2 ^ 95) c.from.ensures c.ranges.down c.ranges.under (many c) (lit≤ tt)

pub returns-clause-exact : goal.returns-clause-exact
returns-clause-exact c = long_is c.from.result c.args.down c.args.under (3 * 2 ^ 95) c.from.ensures c.ranges.down c.ranges.under (many c) (lit≤ tt)

pub returns-clause-size : goal.returns-clause-size
returns-clause-size c = subst (λ (z : ℤ). unsigned_abs z ≤ 3 * 2 ^ 95) (sym (returns-clause-exact c)) (long_size c.args.down c.args.under (3 * 2 ^ 95) (many c))
