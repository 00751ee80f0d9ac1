use Rattle.std.proofs.Common.{◌*◌, ◌^◌, ◌∙◌, ℤ, ◌-ℤ◌, ap, lit≤}
use Rattle.qm_numbers.proofs.Kept.{factors_answered, apart_fits, apart_is}
use Rattle.qm_narrow.proofs.near.rest.Goals as goal

pub overflow_sub-result : goal.overflow_sub-result
overflow_sub-result c = apart_fits c.args.over c.times-whole.result (3 * 2 ^ 97) (3 * 2 ^ 95) c.requires.over_size c.times-whole.ensures.size (lit≤ tt)

pub returns : goal.returns
returns c =
    apart_is c.args.over c.times-whole.result (3 * 2 ^ 97) (3 * 2 ^ 95) c.requires.over_size c.times-whole.ensures.size (lit≤ tt)
    ∙ ap (λ (z : ℤ). c.args.over -ℤ z) (factors_answered c.times-whole.result c.args.down c.args.under 65536 (3 * 2 ^ 79) c.requires.down_size c.requires.under_size (lit≤ tt) (lit≤ tt) c.times-whole.ensures.exact)
