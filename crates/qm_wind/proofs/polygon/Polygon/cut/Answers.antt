use Rattle.std.proofs.Common.{◌∙◌, ◌+◌, ◌++◌, [], ◌∷◌, take, sym, ap₂, subst}
use Rattle.qm_convex.specs.Winding.{IsConvex}
use Rattle.qm_convex.specs.Rotation.{rotated_list}
use Rattle.qm_convex.proofs.Cutting.{cut_convex}
use Rattle.qm_wind.proofs.Polygons.{cut_view}
use Rattle.qm_wind.proofs.polygon.Polygon.cut.Goals as goal

pub invariant_of-result : goal.invariant_of-result
invariant_of-result c =
    subst IsConvex (sym (cut_view _ c.args.self.now c.args.plane.now c.args.start c.args.count _ c.self.view_is
    (c.in_ok-push.ensures.ok ∙ ap₂ (λ es g. es ++ g ∷ []) (c.in_ok-add_arc.ensures.ok ∙ ap₂ (λ old es. old ++ take (c.args.count + 1) (rotated_list c.args.start es)) c.new-edges.ensures.items c.as_slice.ensures) c.plane.view_is)))
    (cut_convex c.args.self.now c.args.plane.now c.args.start c.args.count (subst IsConvex c.self.view_is c.self.invariant) c.requires.run c.requires.behind)

pub returns-clause-cut : goal.returns-clause-cut
returns-clause-cut c =
    cut_view _ c.args.self.now c.args.plane.now c.args.start c.args.count _ c.self.view_is
    (c.in_ok-push.ensures.ok ∙ ap₂ (λ es g. es ++ g ∷ []) (c.in_ok-add_arc.ensures.ok ∙ ap₂ (λ old es. old ++ take (c.args.count + 1) (rotated_list c.args.start es)) c.new-edges.ensures.items c.as_slice.ensures) c.plane.view_is)
