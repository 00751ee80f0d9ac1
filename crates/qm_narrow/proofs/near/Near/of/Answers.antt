use Rattle.std.proofs.Common.{arith, lit≤}
use Rattle.std.proofs.lemmas.Int.{ints}
use Rattle.qm_numbers.proofs.Bits.{fits_32}
use Rattle.qm_numbers.proofs.Kept.{small_kept}
use Rattle.qm_narrow.proofs.Nearness.{under_positive, fraction_small, over_size, under_size, rest_size, d_small, above_fits, near_whole, near_up, near_down}
use Rattle.qm_narrow.proofs.near.Near.of.Goals as goal

pub rounded_down-down-requires-clause-under_positive : goal.rounded_down-down-requires-clause-under_positive
rounded_down-down-requires-clause-under_positive c = under_positive c.args.over c.args.under c.requires

pub rounded_down-down-requires-clause-fraction_small : goal.rounded_down-down-requires-clause-fraction_small
rounded_down-down-requires-clause-fraction_small c = fraction_small c.args.over c.args.under c.requires

pub rest-rest-requires-clause-over_size : goal.rest-rest-requires-clause-over_size
rest-rest-requires-clause-over_size c = over_size c.args.over c.args.under c.requires

pub rest-rest-requires-clause-under_size : goal.rest-rest-requires-clause-under_size
rest-rest-requires-clause-under_size c = under_size c.args.over c.args.under c.requires

pub rest-rest-requires-clause-down_size : goal.rest-rest-requires-clause-down_size
rest-rest-requires-clause-down_size c = small_kept c.rounded_down-down.result 65536 (lit≤ tt) (d_small c.args.over c.args.under c.rounded_down-down.result c.requires c.rounded_down-down.ensures.exact)

pub overflow_cast-below : goal.overflow_cast-below
overflow_cast-below c = fits_32 c.rounded_down-down.result (d_small c.args.over c.args.under c.rounded_down-down.result c.requires c.rounded_down-down.ensures.exact)

pub overflow_add-above : goal.overflow_add-above
overflow_add-above c = above_fits c.rounded_down-down.result (d_small c.args.over c.args.under c.rounded_down-down.result c.requires c.rounded_down-down.ensures.exact)

pub returns-then-rest-le0 : goal.returns-then-rest-le0
returns-then-rest-le0 c =
    let test = c.if-rest-le0.true in let t = c.rest-rest.type_inv in
    near_whole c.args.over c.args.under c.rounded_down-down.result c.rest-rest.result c.requires c.rounded_down-down.ensures.exact c.rest-rest.ensures (omega (arith, ints))

pub returns-then-goes_up : goal.returns-then-goes_up
returns-then-goes_up c =
    let test = c.if-rest-le0.false in let t = c.rest-rest.type_inv in
    near_up c.args.over c.args.under c.rounded_down-down.result c.rest-rest.result c.requires c.rounded_down-down.ensures.exact c.rest-rest.ensures (omega (arith, ints)) (c.goes_up.ensures.up c.if-goes_up.true)

pub returns : goal.returns
returns c =
    let test = c.if-rest-le0.false in let t = c.rest-rest.type_inv in
    near_down c.args.over c.args.under c.rounded_down-down.result c.rest-rest.result c.requires c.rounded_down-down.ensures.exact c.rest-rest.ensures (omega (arith, ints)) (c.goes_up.ensures.down c.if-goes_up.false)

pub goes_up-requires-clause-under_size : goal.goes_up-requires-clause-under_size
goes_up-requires-clause-under_size c = under_size c.args.over c.args.under c.requires

pub goes_up-requires-clause-rest_size : goal.goes_up-requires-clause-rest_size
goes_up-requires-clause-rest_size c = rest_size c.args.over c.args.under c.rounded_down-down.result c.rest-rest.result c.requires c.rounded_down-down.ensures.exact c.rest-rest.ensures
