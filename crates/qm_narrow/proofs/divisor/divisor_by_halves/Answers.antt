use Rattle.std.proofs.Common.{pos_of_ne-zero}
use Rattle.qm_narrow.proofs.Halves.{by_odd_parts, gcd_with_zero, gcd_of_zero}
use Rattle.qm_narrow.proofs.divisor.divisor_by_halves.Goals as goal

pub returns-then-first-eq0 : goal.returns-then-first-eq0
returns-then-first-eq0 c = gcd_of_zero _ _ c.if-first-eq0.true

pub returns-then-second-eq0 : goal.returns-then-second-eq0
returns-then-second-eq0 c = gcd_with_zero _ _ c.if-second-eq0.true

pub returns : goal.returns
returns c = by_odd_parts _ _ _ _ _ _ _ _ (pos_of_ne-zero c.if-first-eq0.false) c.ranges.first.fits c.odd_part.ensures.odd c.odd_part-2.ensures.odd c.odd_part.ensures.product c.odd_part-2.ensures.product c.min-twos.ensures c.divisor_of_odd.ensures
