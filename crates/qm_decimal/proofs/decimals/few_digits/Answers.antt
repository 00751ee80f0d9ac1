use Rattle.std.proofs.Common.{◌<◌, get_or, take, arith}
use Rattle.std.specs.Char.{digit_value}
use Rattle.std.proofs.lemmas.Int.Digits.{digits_value_more, digits_more}
use Rattle.std.proofs.lemmas.List.{length-take}
use Rattle.qm_numerals.proofs.Texts.{digit_within}
use Rattle.qm_numerals.proofs.Values.{six_digits}
use Rattle.qm_decimal.proofs.decimals.few_digits.Goals as goal

pub overflow_mul-value : goal.overflow_mul-value
overflow_mul-value c =
    let so_far = take c.loop-byte.byte-index c.args.text.now in
    let below = six_digits so_far c.loop-byte.invariant.0 (omega (arith, length-take c.loop-byte.byte-index c.args.text.now)) in
    omega (arith, c.loop-byte.invariant.1)

pub returns-in_err-value-clause-none : goal.returns-in_err-value-clause-none
returns-in_err-value-clause-none c = rw c.from_residual.ensures (λ all.
    let digit = digit_within c.args.text.now c.loop-byte.byte-index all c.loop-byte-test.true in
    omega (arith, c.in_err-value.ensures.none))

pub overflow_add-value : goal.overflow_add-value
overflow_add-value c =
    let so_far = take c.loop-byte.byte-index c.args.text.now in
    let below = six_digits so_far c.loop-byte.invariant.0 (omega (arith, length-take c.loop-byte.byte-index c.args.text.now)) in
    let digit = c.in_ok-value.ensures.value.1 in
    omega (arith, c.loop-byte.invariant.1)

pub loop-byte-preserved : goal.loop-byte-preserved
loop-byte-preserved c =
    let text = c.args.text.now in
    let i = c.loop-byte.byte-index in
    let is = c.in_ok-value.ensures.value.0 in
    let small = c.in_ok-value.ensures.value.1 in
    let digit : digit_value (get_or text i 0) < 10 = omega arith in
    let more = digits_value_more 10 text i c.loop-byte-test.true in
    (digits_more 10 text i c.loop-byte-test.true c.loop-byte.invariant.0 digit, omega (arith, c.loop-byte.invariant.1))
