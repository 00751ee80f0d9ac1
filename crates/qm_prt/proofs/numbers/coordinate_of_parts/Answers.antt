use Rattle.std.proofs.Common.{sym, ◌∙◌}
use Rattle.qm_numerals.proofs.ByteTests.{digits_from_test}
use Rattle.qm_prt.proofs.numbers.coordinate_of_parts.Goals as goal

pub digits_value-requires-clause-digits : goal.digits_value-requires-clause-digits
digits_value-requires-clause-digits c = digits_from_test _ (sym c.all_digits.ensures ∙ c.if-not-all_digits.false)
