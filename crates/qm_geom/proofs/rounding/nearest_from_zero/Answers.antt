use Rattle.qm_numbers.proofs.Roundings.{nearest_is, nearest_small}
use Rattle.qm_numbers.proofs.Bits.{narrowed_32, fits_32}
use Rattle.qm_numbers.proofs.Kept.{doubled_sum_kept, doubled_kept}
use Rattle.qm_geom.proofs.rounding.nearest_from_zero.Goals as goal

pub overflow_cast-result : goal.overflow_cast-result
overflow_cast-result c =
    let down = rw (doubled_sum_kept c.args.over c.args.under c.requires.small.over_size c.requires.small.under_size, doubled_kept c.args.under c.requires.small.under_size) at c.rounded_down.ensures.exact in
    let exact = nearest_is c.args.over c.args.under c.rounded_down.result c.requires.not_negative c.requires.small.positive down in
    fits_32 c.rounded_down.result (nearest_small _ _ _ _ c.requires.small.positive c.requires.small.small exact)

pub returns-clause-exact : goal.returns-clause-exact
returns-clause-exact c =
    let down = rw (doubled_sum_kept c.args.over c.args.under c.requires.small.over_size c.requires.small.under_size, doubled_kept c.args.under c.requires.small.under_size) at c.rounded_down.ensures.exact in
    let exact = nearest_is c.args.over c.args.under c.rounded_down.result c.requires.not_negative c.requires.small.positive down in
    rw (narrowed_32 c.rounded_down.result (nearest_small _ _ _ _ c.requires.small.positive c.requires.small.small exact)) exact

pub returns-clause-size : goal.returns-clause-size
returns-clause-size c = nearest_small _ _ _ _ c.requires.small.positive c.requires.small.small (returns-clause-exact c)
