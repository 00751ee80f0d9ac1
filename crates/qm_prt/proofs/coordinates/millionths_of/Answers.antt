use Rattle.std.proofs.Common.{sym}
use Rattle.qm_listing.proofs.RoundedCoordinates.{whole_millionths}
use Rattle.qm_prt.proofs.coordinates.millionths_of.Goals as goal

pub returns-then-numerator-denominator-eq0-clause-value : goal.returns-then-numerator-denominator-eq0-clause-value
returns-then-numerator-denominator-eq0-clause-value c = sym (whole_millionths c.args.numerator c.args.denominator c.requires.some c.if-numerator-denominator-eq0.true)
