use Rattle.std.proofs.Common.{arith}
use Rattle.qm_decimal.proofs.FreeDigits.{first_free}
use Rattle.qm_decimal.proofs.whole.whole_part.Goals as goal

pub returns-then-count-lt-FREE_DIGITS : goal.returns-then-count-lt-FREE_DIGITS
returns-then-count-lt-FREE_DIGITS c =
    let first = c.first_digits-value.ensures in
    let below = first_free c.args.text.now c.first_digits-value.result.1 first.digits first.few in
    record { within = first.within; digits = first.digits; ends = first.ends c.if-count-lt-FREE_DIGITS.true; capped = omega (arith, first.value_is) }
