use Rattle.std.proofs.Common.{◌+ℤ◌, ◌*◌, ◌^◌, ◌∙◌, lit≤}
use Rattle.qm_space.specs.CommonLine.{line_product}
use Rattle.qm_numbers.proofs.Kept.{small_sum_fits, small_sum_is}
use Rattle.qm_geom.proofs.line.Line.product.Goals as goal

pub overflow_add-result : goal.overflow_add-result
overflow_add-result c = small_sum_fits c.moment_about.result c.moment_about-2.result (3 * 2 ^ 124) c.moment_about.ensures.size c.moment_about-2.ensures.size (lit≤ tt)

pub returns : goal.returns
unfolding line_product
returns c =
    small_sum_is c.moment_about.result c.moment_about-2.result (3 * 2 ^ 124) c.moment_about.ensures.size c.moment_about-2.ensures.size (lit≤ tt)
    ∙ (λ i. c.moment_about.ensures.exact i +ℤ c.moment_about-2.ensures.exact i)
