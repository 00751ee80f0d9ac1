use Rattle.qm_geom.proofs.Extents.{AreWide, wide_numbers, test_above, test_below, test_place, between_from, not_between}
use Rattle.qm_geom.proofs.point.is_within_extent.Goals as goal
use Rattle.qm_geom.proofs.point.is_within_extent.Goals.{After-from-place}

wide : (c : After-from-place) → AreWide c.args.coordinate c.args.weight c.product-farthest.result c.from-place.result
wide c =
    wide_numbers c.args.coordinate c.args.weight _ _ c.from.result c.from.ensures c.product-farthest.ensures.exact c.product-farthest.ensures.size c.ranges.weight c.from-place.ensures c.ranges.coordinate

pub returns-then-farthest-place : goal.returns-then-farthest-place
returns-then-farthest-place c =
    let w = wide (goal.at.returns-then-farthest-place c).After-from-place in
    rw (test_place _ _ _ _ w, test_below _ _ _ _ w)
    (between_from c.args.coordinate c.args.weight (rw (test_above _ _ _ _ w, test_place _ _ _ _ w) at c.if-farthest-place.true))

pub returns-else-farthest-place : goal.returns-else-farthest-place
returns-else-farthest-place c =
    let w = wide (goal.at.returns-else-farthest-place c).After-from-place in
    rw (test_above _ _ _ _ w, test_place _ _ _ _ w)
    (not_between c.args.coordinate c.args.weight (rw (test_above _ _ _ _ w, test_place _ _ _ _ w) at c.if-farthest-place.false))
