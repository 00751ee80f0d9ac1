use Rattle.std.proofs.Common.{◌<◌, get_or, arith}
use Rattle.std.specs.Char.{digit_value}
use Rattle.std.proofs.lemmas.Int.Digits.{digits_value_more, digits_more}
use Rattle.qm_decimal.proofs.whole.more_digits.Goals as goal

pub loop-count-preserved : goal.loop-count-preserved
loop-count-preserved c =
    let text = c.args.text.now in
    let i = c.loop-count.count in
    let is = c.in-Some.ensures.value.0 in
    let small = c.in-Some.ensures.value.1 in
    let digit : digit_value (get_or text i 0) < 10 = omega arith in
    let more = digits_value_more 10 text i c.loop-count-test.true in
    (digits_more 10 text i c.loop-count-test.true c.loop-count.invariant.0 digit, omega (arith, c.loop-count.invariant.1))
