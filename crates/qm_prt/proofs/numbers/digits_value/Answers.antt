use Rattle.std.proofs.Common.{arith, refl}
use Rattle.qm_prt.proofs.DigitSteps.{digit_above, value_more, value_fits}
use Rattle.qm_prt.proofs.numbers.digits_value.Goals as goal

pub overflow_mul-value : goal.overflow_mul-value
overflow_mul-value c =
    let small = value_fits c.args.digits.now c.loop-byte.byte-index c.loop-byte.value c.requires.digits c.requires.few c.loop-byte-test.true c.loop-byte.invariant _ refl in
    omega (arith, small)

pub overflow_sub-byte : goal.overflow_sub-byte
overflow_sub-byte c = digit_above c.args.digits.now c.loop-byte.byte-index c.loop-byte.value c.requires.digits c.requires.few c.loop-byte-test.true c.loop-byte.invariant

pub overflow_add-value : goal.overflow_add-value
overflow_add-value c =
    let small = value_fits c.args.digits.now c.loop-byte.byte-index c.loop-byte.value c.requires.digits c.requires.few c.loop-byte-test.true c.loop-byte.invariant c.from.result c.from.ensures in
    omega (arith, small)

pub loop-byte-preserved : goal.loop-byte-preserved
loop-byte-preserved c = value_more c.args.digits.now c.loop-byte.byte-index c.loop-byte.value c.requires.digits c.requires.few c.loop-byte-test.true c.loop-byte.invariant c.from.result c.from.ensures
