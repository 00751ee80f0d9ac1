use Rattle.std.proofs.Common.{subst}
use Rattle.qm_convex.specs.Winding.{IsConvex}
use Rattle.qm_wind.proofs.Clips.{some_across, back_is_gone}
use Rattle.qm_wind.proofs.winding.Winding.in_front_of.Goals as goal

pub returns-in-Back-clause-clip : goal.returns-in-Back-clause-clip
returns-in-Back-clause-clip c = back_is_gone c.args.self.now c.args.plane.now c.in-Back.ensures

pub returns-in_ok-part-in-Across-clause-clip : goal.returns-in_ok-part-in-Across-clause-clip
returns-in_ok-part-in-Across-clause-clip c = (
  c.in_ok-part-in-Across.ensures.part,
  (some_across c.args.self.now c.args.plane.now (subst IsConvex c.self.view_is c.self.invariant.in_world.convex) c.in-Across.ensures.1).1,
)
