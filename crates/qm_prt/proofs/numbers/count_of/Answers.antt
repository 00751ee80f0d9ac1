use Rattle.std.proofs.Common.{sym, ◌∙◌}
use Rattle.qm_listing.proofs.ExactNumbers.{count_numeral}
use Rattle.qm_prt.proofs.numbers.count_of.Goals as goal

pub digits_value-requires-clause-digits : goal.digits_value-requires-clause-digits
digits_value-requires-clause-digits c = (count_numeral c.args.numeral.now (sym c.is_count_numeral.ensures ∙ c.if-is_count_numeral.true)).digits

pub digits_value-requires-clause-few : goal.digits_value-requires-clause-few
digits_value-requires-clause-few c = (count_numeral c.args.numeral.now (sym c.is_count_numeral.ensures ∙ c.if-is_count_numeral.true)).few
