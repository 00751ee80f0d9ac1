use Rattle.std.proofs.Common.{sym}
use Rattle.qm_convex.proofs.Within.{own_within}
use Rattle.qm_wind.proofs.winding.Winding.in_cuboid.Goals as goal

pub invariant_of-result : goal.invariant_of-result
invariant_of-result c = record {
  in_world = c.requires.in_world;
  within = own_within c.args.polygon c.plane-plane.result c.args.cuboid c.tightened_on.result c.requires.within (sym c.plane-plane.ensures) c.tightened_on.ensures;
}
