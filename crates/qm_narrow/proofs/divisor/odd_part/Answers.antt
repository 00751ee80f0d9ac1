use Rattle.qm_narrow.proofs.Halves.{odd_part_odd, odd_part_product}
use Rattle.qm_narrow.proofs.divisor.odd_part.Goals as goal

pub returns-clause-odd : goal.returns-clause-odd
returns-clause-odd c = odd_part_odd c.args.number c.requires c.ranges.number.fits

pub returns-clause-product : goal.returns-clause-product
returns-clause-product c = odd_part_product c.args.number c.requires c.ranges.number.fits
