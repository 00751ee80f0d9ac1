use Rattle.std.proofs.Common.{◌<◌, get_or, length, arith}
use Rattle.std.specs.Char.{digit_value}
use Rattle.std.proofs.lemmas.Int.Digits.{digits_value_more, digits_more}
use Rattle.qm_decimal.proofs.FreeDigits.{first_free}
use Rattle.qm_decimal.proofs.whole.first_digits.Goals as goal

pub overflow_mul-value : goal.overflow_mul-value
overflow_mul-value c =
    let below = first_free c.args.text.now c.loop-count.count c.loop-count.invariant.0 (omega arith) in
    omega (arith, c.loop-count.invariant.1)

pub overflow_add-value : goal.overflow_add-value
overflow_add-value c =
    let below = first_free c.args.text.now c.loop-count.count c.loop-count.invariant.0 (omega arith) in
    let digit = c.in-Some.ensures.value.1 in
    omega (arith, c.loop-count.invariant.1)

pub loop-count-preserved : goal.loop-count-preserved
loop-count-preserved c =
    let text = c.args.text.now in
    let i = c.loop-count.count in
    let within : i < length text = omega arith in
    let is = c.in-Some.ensures.value.0 in
    let small = c.in-Some.ensures.value.1 in
    let digit : digit_value (get_or text i 0) < 10 = omega arith in
    let more = digits_value_more 10 text i within in
    (digits_more 10 text i within c.loop-count.invariant.0 digit, omega (arith, c.loop-count.invariant.1))
