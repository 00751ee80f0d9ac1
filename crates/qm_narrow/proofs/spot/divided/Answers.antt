use Rattle.qm_narrow.proofs.Nearness.{spot_by, coordinate_answered}
use Rattle.qm_narrow.proofs.spot.divided.Goals as goal

pub returns : goal.returns
returns c =
    spot_by c.args.corner.now c.requires.in_cube c.requires.small c.fraction-x.ensures.sizes c.of-near_x.result c.of-near_y.result c.of-near_z.result
    _ _ _ _ c.fraction-x.ensures.numerator c.fraction-y.ensures.numerator c.fraction-z.ensures.numerator c.fraction-x.ensures.denominator
    c.of-near_x.ensures c.of-near_y.ensures c.of-near_z.ensures c.fine_of.result c.fine_of.ensures

pub of-near_x-requires : goal.of-near_x-requires
of-near_x-requires c = coordinate_answered c.args.corner.now.x c.args.corner.now.w _ _ (record { positive = c.requires.in_cube.weight; small = c.requires.small.x_small; over_size = c.fraction-x.ensures.sizes.x_small; under_size = c.fraction-x.ensures.sizes.w_small }) c.fraction-x.ensures.numerator c.fraction-x.ensures.denominator

pub of-near_y-requires : goal.of-near_y-requires
of-near_y-requires c = coordinate_answered c.args.corner.now.y c.args.corner.now.w _ _ (record { positive = c.requires.in_cube.weight; small = c.requires.small.y_small; over_size = c.fraction-x.ensures.sizes.y_small; under_size = c.fraction-x.ensures.sizes.w_small }) c.fraction-y.ensures.numerator c.fraction-x.ensures.denominator

pub of-near_z-requires : goal.of-near_z-requires
of-near_z-requires c = coordinate_answered c.args.corner.now.z c.args.corner.now.w _ _ (record { positive = c.requires.in_cube.weight; small = c.requires.small.z_small; over_size = c.fraction-x.ensures.sizes.z_small; under_size = c.fraction-x.ensures.sizes.w_small }) c.fraction-z.ensures.numerator c.fraction-x.ensures.denominator
