use Rattle.std.proofs.Common.{◌≤◌, ℤ, ◌∙◌, ◌+ℤ◌, sym, subst, unsigned_abs}
use Rattle.qm_geom.specs.Vectors.{dot}
use Rattle.qm_narrow.specs.inner.Turn.{dot_bound}
use Rattle.qm_narrow.proofs.KeptSizes.{product_is, products_kept, products_small, two_fit, three_fit}
use Rattle.qm_narrow.proofs.sizes.dot.Goals as goal

pub returns-clause-exact : goal.returns-clause-exact
unfolding dot
returns-clause-exact c =
    products_kept c.product-of_x.result c.product-of_y.result c.product-of_z.result c.product-of_x.ensures.size c.product-of_y.ensures.size c.product-of_z.ensures.size
    ∙ (λ i. (product_is c.args.normal.now.x c.args.step.now.x c.product-of_x.result c.requires.normal_small.x_small c.requires.step_small.x_small c.product-of_x.ensures.exact i
    +ℤ product_is c.args.normal.now.y c.args.step.now.y c.product-of_y.result c.requires.normal_small.y_small c.requires.step_small.y_small c.product-of_y.ensures.exact i)
    +ℤ product_is c.args.normal.now.z c.args.step.now.z c.product-of_z.result c.requires.normal_small.z_small c.requires.step_small.z_small c.product-of_z.ensures.exact i)

pub returns-clause-size : goal.returns-clause-size
returns-clause-size c = subst (λ (z : ℤ). unsigned_abs z ≤ dot_bound)
    (sym (products_kept c.product-of_x.result c.product-of_y.result c.product-of_z.result c.product-of_x.ensures.size c.product-of_y.ensures.size c.product-of_z.ensures.size))
    (products_small c.product-of_x.result c.product-of_y.result c.product-of_z.result c.product-of_x.ensures.size c.product-of_y.ensures.size c.product-of_z.ensures.size)

pub overflow_add-result : goal.overflow_add-result
overflow_add-result c = two_fit c.product-of_x.result c.product-of_y.result c.product-of_x.ensures.size c.product-of_y.ensures.size

pub overflow_add-result-2 : goal.overflow_add-result-2
overflow_add-result-2 c = three_fit c.product-of_x.result c.product-of_y.result c.product-of_z.result c.product-of_x.ensures.size c.product-of_y.ensures.size c.product-of_z.ensures.size
