use Rattle.std.proofs.Common.{lit≤}
use Rattle.qm_numbers.proofs.Bits.{negated_32, kept_64}
use Rattle.qm_space.proofs.Cubes.{mirrored_reduced}
use Rattle.qm_wind.proofs.walls.mirrored.Goals as goal

pub invariant_of-result : goal.invariant_of-result
invariant_of-result c =
    rw (negated_32 c.wall.inside.nx _ c.wall.invariant.nx_small (lit≤ tt), negated_32 c.wall.inside.ny _ c.wall.invariant.ny_small (lit≤ tt), negated_32 c.wall.inside.nz _ c.wall.invariant.nz_small (lit≤ tt), kept_64 c.wall.inside.d _ c.wall.invariant.d_small (lit≤ tt))
    (mirrored_reduced _ c.wall.invariant)

pub returns : goal.returns
returns c =
    rw (negated_32 c.wall.inside.nx _ c.wall.invariant.nx_small (lit≤ tt), negated_32 c.wall.inside.ny _ c.wall.invariant.ny_small (lit≤ tt), negated_32 c.wall.inside.nz _ c.wall.invariant.nz_small (lit≤ tt), kept_64 c.wall.inside.d _ c.wall.invariant.d_small (lit≤ tt))
    (rw (← c.wall.view_is))
