use Rattle.std.proofs.Common.{refl, subst}
use Rattle.qm_convex.specs.Winding.{IsConvex}
use Rattle.qm_convex.proofs.Cutting.{whole_is_part}
use Rattle.qm_wind.proofs.Clips.{back_is_gone, on_is_gone}
use Rattle.qm_wind.proofs.winding.Winding.cut_in_front_of.Goals as goal

pub returns-in-Front-clause-ok : goal.returns-in-Front-clause-ok
returns-in-Front-clause-ok c =
    whole_is_part c.args.self.now c.args.plane.now (subst IsConvex c.self.view_is c.self.invariant.in_world.convex) c.in-Front.ensures

pub returns-in-Back-clause-ok : goal.returns-in-Back-clause-ok
returns-in-Back-clause-ok c = (refl, back_is_gone c.args.self.now c.args.plane.now c.in-Back.ensures)

pub returns-in-On-clause-ok : goal.returns-in-On-clause-ok
returns-in-On-clause-ok c = (refl, on_is_gone c.args.self.now c.args.plane.now c.in-On.ensures)
