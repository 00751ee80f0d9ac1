use Rattle.std.proofs.Common.{lit≤}
use Rattle.qm_space.proofs.ReducedPlanes.{flipped_is_reduced}
use Rattle.qm_numbers.proofs.Bits.{negated_32, negated_64}
use Rattle.qm_geom.proofs.plane.Plane.flipped.Goals as goal

pub invariant_of-result : goal.invariant_of-result
invariant_of-result c =
    rw (negated_32 c.self.inside.nx _ c.self.invariant.nx_small (lit≤ tt), negated_32 c.self.inside.ny _ c.self.invariant.ny_small (lit≤ tt), negated_32 c.self.inside.nz _ c.self.invariant.nz_small (lit≤ tt), negated_64 c.self.inside.d _ c.self.invariant.d_small (lit≤ tt))
    (flipped_is_reduced _ c.self.invariant)

pub returns : goal.returns
returns c =
    rw (negated_32 c.self.inside.nx _ c.self.invariant.nx_small (lit≤ tt), negated_32 c.self.inside.ny _ c.self.invariant.ny_small (lit≤ tt), negated_32 c.self.inside.nz _ c.self.invariant.nz_small (lit≤ tt), negated_64 c.self.inside.d _ c.self.invariant.d_small (lit≤ tt))
    (rw (← c.self.view_is))
