use Rattle.std.proofs.Common.{◌↔◌, IsTrue, subst}
use Rattle.qm_space.specs.Plane.{Plane}
use Rattle.qm_convex.specs.Sides.{HasCornerInFront}
use Rattle.qm_wind.proofs.SidesOfCorners.{behind_by_flipped}
use Rattle.qm_wind.proofs.winding.Winding.has_corner_behind.Goals as goal

pub returns : goal.returns
returns c =
    let told = subst (λ (g : Plane). IsTrue c.has_corner_in_front.result ↔ HasCornerInFront c.args.self.now g) c.flipped.ensures c.has_corner_in_front.ensures in
    let both = behind_by_flipped c.args.self.now c.args.plane.now in
    ((λ is. both.0 (told.0 is)), (λ behind. told.1 (both.1 behind)))
