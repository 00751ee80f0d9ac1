use Rattle.std.proofs.Common.{pos, rules}
use Rattle.qm_space.proofs.CoordinateSizes.{coordinate_kept}
use Rattle.qm_narrow.proofs.spot.Spot.cuboid.Goals as goal

pub between-requires-3-clause-low : goal.between-requires-3-clause-low
between-requires-3-clause-low c = coordinate_kept _ (c.requires.below_in 2 (pos 0) (search rules))

pub between-requires-3-clause-high : goal.between-requires-3-clause-high
between-requires-3-clause-high c = coordinate_kept _ (c.requires.above_in 2 (pos 0) (search rules))
