use Rattle.qm_numbers.proofs.Kept.{wide_fits, wide_is}
use Rattle.qm_narrow.proofs.crossing.product.Goals as goal

pub overflow_mul-result : goal.overflow_mul-result
overflow_mul-result c = wide_fits _ _ _ _ c.from.ensures c.from-2.ensures c.ranges.first c.ranges.second

pub returns : goal.returns
returns c = wide_is _ _ _ _ c.from.ensures c.from-2.ensures c.ranges.first c.ranges.second
