use Rattle.std.proofs.Common.{arith}
use Rattle.std.proofs.lemmas.List.{take_rest}
use Rattle.std.proofs.lemmas.Result.{err_from_is_err_and}
use Rattle.qm_numerals.proofs.Texts.{first_digits}
use Rattle.qm_numerals.proofs.Values.{units_below, unit_at_most}
use Rattle.qm_numerals.proofs.Reading.{past_fault_cut, missing_fault, kept_decimals}
use Rattle.qm_decimal.proofs.decimals.decimal_part.Goals as goal

pub returns-in_err-value : goal.returns-in_err-value
returns-in_err-value c =
    let p = err_from_is_err_and c.from_residual.result c.from_residual.ensures.1 in
    let none = c.in_err-value.ensures.ok_part in
    let form = missing_fault c.few_digits.result c.in_err-value.field-0.0 none c.in_err-value.ensures.value in
    rw (p.1, p.2, form) (λ all. (rw none at c.few_digits.ensures.none) (first_digits c.min-kept.result c.args.text.now all))

pub returns-in_err-zeros : goal.returns-in_err-zeros
returns-in_err-zeros c =
    let p = err_from_is_err_and c.from_residual-in_err-zeros.result c.from_residual-in_err-zeros.ensures.1 in
    let kept = rw c.in_ok-value.ensures.ok_part at c.few_digits.ensures.digits in
    rw (p.1, p.2) (past_fault_cut c.in_err-zeros.field-0.0 c.args.text.now c.min-kept.result c.args.places c.min-kept.ensures kept.0 c.in_err-zeros.ensures)

pub overflow_mul-result : goal.overflow_mul-result
overflow_mul-result c =
    let kept = rw c.in_ok-value.ensures.ok_part at c.few_digits.ensures.digits in
    let zeros = rw take_rest at c.in_ok-zeros.ensures in
    let part = kept_decimals c.args.text.now c.min-kept.result c.args.places c.in_ok-value.value c.power_of_ten.result c.min-kept.ensures kept.0 kept.1 zeros c.power_of_ten.ensures in
    let below = units_below c.args.text.now c.args.places part.digits in
    let unit = unit_at_most c.args.places c.requires in
    omega (arith, part.value_is)

pub returns : goal.returns
returns c =
    let kept = rw c.in_ok-value.ensures.ok_part at c.few_digits.ensures.digits in
    let zeros = rw take_rest at c.in_ok-zeros.ensures in
    kept_decimals c.args.text.now c.min-kept.result c.args.places c.in_ok-value.value c.power_of_ten.result c.min-kept.ensures kept.0 kept.1 zeros c.power_of_ten.ensures
