use Rattle.std.proofs.Common.{sym, ◌∙◌}
use Rattle.qm_numerals.proofs.ByteTests.{digits_from_test, test_from_digits, other_from_test}
use Rattle.qm_decimal.proofs.decimals.zeros.Goals as goal

pub returns-then-all_digits : goal.returns-then-all_digits
returns-then-all_digits c =
    (digits_from_test c.args.text.now (sym c.all_digits.ensures ∙ c.if-all_digits.true), other_from_test c.args.text.now (sym c.all_zeros.ensures ∙ c.if-all_zeros.false))

pub returns-else-all_digits : goal.returns-else-all_digits
returns-else-all_digits c = λ all. let h = sym (test_from_digits c.args.text.now all) ∙ (sym c.all_digits.ensures ∙ c.if-all_digits.false) in cc
