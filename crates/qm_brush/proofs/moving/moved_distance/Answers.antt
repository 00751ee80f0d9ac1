use Rattle.std.proofs.Common.{◌∙◌, ap, neg_ℤ}
use Rattle.qm_brush.proofs.MovedFaces.{least_small, negation_fits, negation_is}
use Rattle.qm_brush.proofs.moving.moved_distance.Goals as goal

pub overflow_sub-result : goal.overflow_sub-result
overflow_sub-result c =
    negation_fits c.least_value.result (rw c.least_value.ensures.exact (least_small c.args.cuboid.now c.args.plane.now c.requires.small c.requires.near))

pub returns : goal.returns
returns c =
    negation_is c.least_value.result (rw c.least_value.ensures.exact (least_small c.args.cuboid.now c.args.plane.now c.requires.small c.requires.near))
    ∙ ap neg_ℤ c.least_value.ensures.exact
