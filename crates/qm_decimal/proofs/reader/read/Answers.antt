use Rattle.std.proofs.Common.{refl, rules, sym, FitsSigned, w64, ◌∙◌}
use Rattle.std.proofs.lemmas.Int.{to_z-of_z}
use Rattle.std.proofs.lemmas.Result.{err_from_is_err_and}
use Rattle.qm_numerals.proofs.Texts.{same_number}
use Rattle.qm_numerals.specs.Computed.{read_at}
use Rattle.qm_numerals.proofs.Uniqueness.{signed_fault, signed_value, same_answer}
use Rattle.qm_numerals.proofs.Computed.{read_at_answers}
use Rattle.qm_decimal.proofs.reader.read.Goals as goal

pub returns-in_err-magnitude-clause-answer : goal.returns-in_err-magnitude-clause-answer
returns-in_err-magnitude-clause-answer c =
    let p = err_from_is_err_and c.from_residual.result c.from_residual.ensures.1 in
    rw (p.1, p.2) (signed_fault c.in_err-magnitude.field-0.0 c.args.text.now c.split_sign-is_negative.result.0 c.split_sign-is_negative.result.1.now c.args.places c.split_sign-is_negative.ensures c.in_err-magnitude.ensures)

pub returns-in_err-magnitude-clause-only : goal.returns-in_err-magnitude-clause-only
returns-in_err-magnitude-clause-only c = λ other h. same_answer c.args.text.now c.args.places other c.from_residual.result h (returns-in_err-magnitude-clause-answer c)

pub returns-in_err-magnitude-clause-one_number : goal.returns-in_err-magnitude-clause-one_number
returns-in_err-magnitude-clause-one_number c = same_number c.args.text.now

pub returns-clause-answer : goal.returns-clause-answer
returns-clause-answer c =
    let fits : FitsSigned w64 c.with_sign.result = search rules in
    let numerator = to_z-of_z w64 c.with_sign.result fits in
    signed_value c.args.text.now c.split_sign-is_negative.result.0 c.split_sign-is_negative.result.1.now c.args.places c.in_ok-magnitude.magnitude _ c.split_sign-is_negative.ensures c.in_ok-magnitude.ensures (numerator ∙ c.with_sign.ensures) refl

pub returns-clause-only : goal.returns-clause-only
returns-clause-only c = λ other h. same_answer c.args.text.now c.args.places other _ h (returns-clause-answer c)

pub returns-clause-one_number : goal.returns-clause-one_number
returns-clause-one_number c = same_number c.args.text.now

pub returns-in_err-magnitude-clause-value : goal.returns-in_err-magnitude-clause-value
returns-in_err-magnitude-clause-value c =
    sym (returns-in_err-magnitude-clause-only c (read_at c.args.text.now c.args.places) (read_at_answers c.args.text.now c.args.places))

pub returns-clause-value : goal.returns-clause-value
returns-clause-value c =
    sym (returns-clause-only c (read_at c.args.text.now c.args.places) (read_at_answers c.args.text.now c.args.places))
