use Rattle.std.proofs.Common.{subst}
use Rattle.qm_convex.specs.Winding.{IsConvex}
use Rattle.qm_wind.proofs.Clips.{some_across}
use Rattle.qm_wind.proofs.winding.Winding.lies.Goals as goal

pub returns-in-Across : goal.returns-in-Across
returns-in-Across c = some_across c.args.self.now c.args.plane.now (subst IsConvex c.self.view_is c.self.invariant.in_world.convex) c.in-Across.ensures.1
