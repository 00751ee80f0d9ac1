use Rattle.std.proofs.Common.{◌≤◌, arith, mul-le-mul}
use Rattle.std.proofs.lemmas.Result.{err_from_is_err_and}
use Rattle.qm_numerals.proofs.Values.{units_below, unit_at_most}
use Rattle.qm_numerals.proofs.Reading.{missing_fault, no_tail_cut, no_digits, decimal_fault, within_limit, above_limit, tail_cut}
use Rattle.qm_decimal.proofs.reader.magnitude.Goals as goal

pub returns-in_err-decimals : goal.returns-in_err-decimals
returns-in_err-decimals c =
    let p = err_from_is_err_and c.from_residual.result c.from_residual.ensures.1 in
    let none = c.in_err-decimals.ensures.ok_part in
    let form = missing_fault c.after_point.result c.in_err-decimals.field-0.0 none c.in_err-decimals.ensures.value in
    rw (p.1, p.2, form) (no_tail_cut c.args.text.now c.whole_part-whole.result.0 c.whole_part-whole.result.1 c.whole_part-whole.ensures (rw none at c.after_point.ensures.none))

pub returns-then-count-decimals-eq0 : goal.returns-then-count-decimals-eq0
returns-then-count-decimals-eq0 c =
    let tail = tail_cut c.args.text.now c.whole_part-whole.result.1 c.in_ok-decimals.decimals.now (rw c.in_ok-decimals.ensures.ok_part at c.after_point.ensures.decimals) in
    no_digits c.args.text.now c.whole_part-whole.result.0 c.whole_part-whole.result.1 c.in_ok-decimals.decimals.now c.whole_part-whole.ensures tail (omega arith)

pub returns-in_err-part : goal.returns-in_err-part
returns-in_err-part c =
    let p = err_from_is_err_and c.from_residual-in_err-part.result c.from_residual-in_err-part.ensures.1 in
    let tail = tail_cut c.args.text.now c.whole_part-whole.result.1 c.in_ok-decimals.decimals.now (rw c.in_ok-decimals.ensures.ok_part at c.after_point.ensures.decimals) in
    rw (p.1, p.2) (decimal_fault c.in_err-part.field-0.0 c.args.text.now c.whole_part-whole.result.0 c.whole_part-whole.result.1 c.args.places c.in_ok-decimals.decimals.now c.whole_part-whole.ensures tail (λ h. omega arith) c.in_err-part.ensures)

pub overflow_add-magnitude : goal.overflow_add-magnitude
overflow_add-magnitude c =
    let part = c.in_ok-part.ensures in
    let below = units_below c.in_ok-decimals.decimals.now c.args.places part.digits in
    let unit = unit_at_most c.args.places c.requires in
    let capped = c.whole_part-whole.ensures.capped in
    let value : c.whole_part-whole.result.0 ≤ 1000000001 = omega arith in
    let size : c.power_of_ten-unit.result ≤ 1000000 = omega (arith, c.power_of_ten-unit.ensures) in
    let product = mul-le-mul value size in
    omega (arith, part.value_is)

pub returns-then-magnitude-unit : goal.returns-then-magnitude-unit
returns-then-magnitude-unit c =
    let tail = tail_cut c.args.text.now c.whole_part-whole.result.1 c.in_ok-decimals.decimals.now (rw c.in_ok-decimals.ensures.ok_part at c.after_point.ensures.decimals) in
    above_limit c.args.text.now c.whole_part-whole.result.0 c.whole_part-whole.result.1 c.args.places c.power_of_ten-unit.result c.in_ok-part.part c.in_ok-decimals.decimals.now c.whole_part-whole.ensures tail (λ h. omega arith) c.in_ok-part.ensures c.power_of_ten-unit.ensures c.if-magnitude-unit.true

pub returns-else-magnitude-unit : goal.returns-else-magnitude-unit
returns-else-magnitude-unit c =
    let tail = tail_cut c.args.text.now c.whole_part-whole.result.1 c.in_ok-decimals.decimals.now (rw c.in_ok-decimals.ensures.ok_part at c.after_point.ensures.decimals) in
    within_limit c.args.text.now c.whole_part-whole.result.0 c.whole_part-whole.result.1 c.args.places c.power_of_ten-unit.result c.in_ok-part.part c.in_ok-decimals.decimals.now c.whole_part-whole.ensures tail (λ h. omega arith) c.in_ok-part.ensures c.power_of_ten-unit.ensures c.if-magnitude-unit.false
