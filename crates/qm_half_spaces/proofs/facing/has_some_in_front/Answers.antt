use Rattle.std.proofs.Common.{IsTrue, ◌↔◌, ap, ◌∙◌, subst}
use Rattle.qm_convex.specs.Winding.{Winding, IsConvex}
use Rattle.qm_convex.specs.Sides.{HasCornerInFront}
use Rattle.qm_convex.specs.inner.Facets.{Facet}
use Rattle.qm_facets.proofs.MorePlanes.{by_corners}
use Rattle.qm_half_spaces.proofs.facing.has_some_in_front.Goals as goal

pub returns : goal.returns
returns c =
    by_corners c.has_corner_in_front.result c.args.facet.now.winding c.args.plane.now
    (subst IsConvex (c.deref.ensures ∙ ap (λ (f : Facet). f.winding) c.facet.view_is) c.len-corners.ensures.in_world.convex)
    (subst (λ (w : Winding). IsTrue c.has_corner_in_front.result ↔ HasCornerInFront w c.args.plane.now) (c.deref-2.ensures ∙ ap (λ (f : Facet). f.winding) c.facet.view_is) c.has_corner_in_front.ensures)
