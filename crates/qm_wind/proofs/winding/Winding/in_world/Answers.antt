use Rattle.std.proofs.Common.{sym, subst}
use Rattle.qm_convex.specs.World.{LiesWithin}
use Rattle.qm_convex.proofs.Within.{world_within}
use Rattle.qm_wind.proofs.winding.Winding.in_world.Goals as goal

pub in_cuboid-requires-clause-within : goal.in_cuboid-requires-clause-within
in_cuboid-requires-clause-within c = subst (LiesWithin c.args.polygon) (sym c.whole.ensures) (world_within c.args.polygon c.requires)
