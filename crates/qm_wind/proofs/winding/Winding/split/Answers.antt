use Rattle.std.proofs.Common.{subst, sym}
use Rattle.qm_convex.specs.Winding.{IsConvex}
use Rattle.qm_wind.specs.inner.Finding.{HasCornersAcross}
use Rattle.qm_wind.proofs.Clips.{across_flipped, split_front, split_back, split_on}
use Rattle.qm_wind.proofs.winding.Winding.split.Goals as goal

pub returns-in-Front : goal.returns-in-Front
returns-in-Front c = split_front c.args.self c.args.plane.now (subst IsConvex c.self.view_is c.self.invariant.in_world.convex) c.in-Front.ensures

pub returns-in-Back : goal.returns-in-Back
returns-in-Back c = split_back c.args.self c.args.plane.now (subst IsConvex c.self.view_is c.self.invariant.in_world.convex) c.in-Back.ensures

pub returns-in-On : goal.returns-in-On
returns-in-On c = split_on c.args.self c.args.plane.now c.in-On.ensures

pub part-requires-in-Across-clause-across : goal.part-requires-in-Across-clause-across
part-requires-in-Across-clause-across c =
    subst (HasCornersAcross c.args.self) (sym c.flipped.ensures) (across_flipped c.args.self c.args.plane.now c.in-Across.ensures.1)
