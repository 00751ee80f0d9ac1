use Rattle.std.proofs.Common.{pos, ap, sym, subst, ◌∙◌}
use Rattle.qm_space.specs.Bounds.{outward_normal_bound}
use Rattle.qm_space.specs.Plane.{Plane}
use Rattle.qm_space.specs.Reduced.{HasNormalUpTo}
use Rattle.qm_space.specs.ThreePoints.{in_space}
use Rattle.qm_geom.proofs.Vectors.{plane, thousandfold_kept}
use Rattle.qm_geom.proofs.unreduced.UnreducedPlane.in_thousandths.Goals as goal

pub returns : goal.returns
returns c =
    thousandfold_kept (plane c.self.inside.nx c.self.inside.ny c.self.inside.nz c.self.inside.d)
    (subst (λ (h : Plane). HasNormalUpTo outward_normal_bound h) (sym c.self.view_is) c.requires) c.self.invariant.d_small
    ∙ ap (in_space (pos 1000)) c.self.view_is
