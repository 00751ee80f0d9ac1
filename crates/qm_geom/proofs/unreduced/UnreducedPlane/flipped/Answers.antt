use Rattle.std.proofs.Common.{◌<◌, ◌^◌, unsigned_abs, arith, lit≤}
use Rattle.qm_numbers.proofs.Bits.{negated_64, negated_128}
use Rattle.qm_geom.proofs.unreduced.UnreducedPlane.flipped.Goals as goal

pub returns : goal.returns
returns c =
    let fits : unsigned_abs c.self.inside.d < 2 ^ 127 = let small = c.self.invariant.d_small in omega arith in
    rw (negated_64 c.self.inside.nx _ c.self.invariant.nx_small (lit≤ tt), negated_64 c.self.inside.ny _ c.self.invariant.ny_small (lit≤ tt), negated_64 c.self.inside.nz _ c.self.invariant.nz_small (lit≤ tt), negated_128 c.self.inside.d fits)
    (rw (← c.self.view_is))
