use Rattle.std.proofs.Common.{List, All, pos, ◌≤ℤ◌, subst}
use Rattle.qm_space.specs.Plane.{Plane}
use Rattle.qm_space.specs.Cuboid.{least_value, greatest_value}
use Rattle.qm_extents.proofs.FilledCuboids.{all_by_values}
use Rattle.qm_extents.proofs.filled.fills.Goals as goal

pub returns : goal.returns
returns c = λ is.
    let cuboid = c.args.cuboid.now in
    all_by_values c.args.winding.now cuboid
    (subst (λ (h : Plane). pos 0 ≤ℤ least_value h cuboid) c.plane.ensures (c.is_on.ensures.below c.if-not-is_on.false))
    (subst (λ (h : Plane). greatest_value h cuboid ≤ℤ pos 0) c.plane.ensures (c.is_on.ensures.above c.if-not-is_on.false))
    (subst (λ (edges : List Plane). All (λ h. pos 0 ≤ℤ least_value h cuboid) edges) c.edges.ensures (c.is_not_behind.ensures.0 is))
