use Rattle.std.proofs.Common.{subst}
use Rattle.qm_convex.specs.Winding.{IsConvex}
use Rattle.qm_wind.proofs.SidesOfCorners.{sides_in_front, sides_at_back, sides_on, sides_across}
use Rattle.qm_wind.proofs.winding.Winding.corner_sides.Goals as goal

pub returns-in-Front : goal.returns-in-Front
returns-in-Front c = sides_in_front c.args.self.now c.args.plane.now (subst IsConvex c.self.view_is c.self.invariant.in_world.convex) c.in-Front.ensures

pub returns-in-Back : goal.returns-in-Back
returns-in-Back c = sides_at_back c.args.self.now c.args.plane.now (subst IsConvex c.self.view_is c.self.invariant.in_world.convex) c.in-Back.ensures

pub returns-in-On : goal.returns-in-On
returns-in-On c = sides_on c.args.self.now c.args.plane.now (subst IsConvex c.self.view_is c.self.invariant.in_world.convex) c.in-On.ensures

pub returns-in-Across : goal.returns-in-Across
returns-in-Across c = sides_across c.args.self.now c.args.plane.now c.in-Across.ensures.1
