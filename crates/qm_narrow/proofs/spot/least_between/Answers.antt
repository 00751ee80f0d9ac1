use Rattle.std.proofs.Common.{rules, pos, lit≤}
use Rattle.qm_numbers.proofs.Kept.{small_kept}
use Rattle.qm_space.specs.Bounds.{whole_normal_bound}
use Rattle.qm_narrow.specs.inner.Look.{look_product_bound, look_bound, least_between}
use Rattle.qm_space.proofs.CoordinateSizes.{coordinate_kept}
use Rattle.qm_narrow.proofs.KeptNormals.{least_is, three_are}
use Rattle.qm_narrow.proofs.spot.least_between.Goals as goal

pub least_product-requires-clause-component_small : goal.least_product-requires-clause-component_small
least_product-requires-clause-component_small c = small_kept c.args.normal.now.x whole_normal_bound (lit≤ tt) c.requires.small.x_small

pub least_product-requires-clause-low_in : goal.least_product-requires-clause-low_in
least_product-requires-clause-low_in c = coordinate_kept _ (c.requires.low_in 0 (pos 0) (search rules))

pub least_product-requires-clause-high_in : goal.least_product-requires-clause-high_in
least_product-requires-clause-high_in c = coordinate_kept _ (c.requires.high_in 0 (pos 0) (search rules))

pub least_product-requires-2-clause-component_small : goal.least_product-requires-2-clause-component_small
least_product-requires-2-clause-component_small c = small_kept c.args.normal.now.y whole_normal_bound (lit≤ tt) c.requires.small.y_small

pub least_product-requires-2-clause-low_in : goal.least_product-requires-2-clause-low_in
least_product-requires-2-clause-low_in c = coordinate_kept _ (c.requires.low_in 1 (pos 0) (search rules))

pub least_product-requires-2-clause-high_in : goal.least_product-requires-2-clause-high_in
least_product-requires-2-clause-high_in c = coordinate_kept _ (c.requires.high_in 1 (pos 0) (search rules))

pub least_product-requires-3-clause-component_small : goal.least_product-requires-3-clause-component_small
least_product-requires-3-clause-component_small c = small_kept c.args.normal.now.z whole_normal_bound (lit≤ tt) c.requires.small.z_small

pub least_product-requires-3-clause-low_in : goal.least_product-requires-3-clause-low_in
least_product-requires-3-clause-low_in c = coordinate_kept _ (c.requires.low_in 2 (pos 0) (search rules))

pub least_product-requires-3-clause-high_in : goal.least_product-requires-3-clause-high_in
least_product-requires-3-clause-high_in c = coordinate_kept _ (c.requires.high_in 2 (pos 0) (search rules))

pub sum-requires : goal.sum-requires
sum-requires c = record {
  x_small = small_kept c.least_product.result look_product_bound (lit≤ tt) c.least_product.ensures.size;
  y_small = small_kept c.least_product-2.result look_product_bound (lit≤ tt) c.least_product-2.ensures.size;
  z_small = small_kept c.least_product-3.result look_product_bound (lit≤ tt) c.least_product-3.ensures.size;
}

pub returns-clause-exact : goal.returns-clause-exact
unfolding least_between
returns-clause-exact c =
    three_are c.least_product.result c.least_product-2.result c.least_product-3.result c.sum.result _ _ _ c.sum.ensures.size c.sum.ensures.exact
    c.least_product.ensures.size c.least_product-2.ensures.size c.least_product-3.ensures.size
    (least_is c.args.normal.now.x _ _ _ c.requires.small.x_small (c.requires.low_in 0 (pos 0) (search rules)) (c.requires.high_in 0 (pos 0) (search rules)) c.least_product.ensures.exact)
    (least_is c.args.normal.now.y _ _ _ c.requires.small.y_small (c.requires.low_in 1 (pos 0) (search rules)) (c.requires.high_in 1 (pos 0) (search rules)) c.least_product-2.ensures.exact)
    (least_is c.args.normal.now.z _ _ _ c.requires.small.z_small (c.requires.low_in 2 (pos 0) (search rules)) (c.requires.high_in 2 (pos 0) (search rules)) c.least_product-3.ensures.exact)

pub returns-clause-size : goal.returns-clause-size
returns-clause-size c = small_kept c.sum.result look_bound (lit≤ tt) c.sum.ensures.size
