use Rattle.std.proofs.Common.{◌∙◌, length, ap, sym, subst}
use Rattle.std.specs.List.{Contains}
use Rattle.qm_space.specs.Plane.{IsOn}
use Rattle.qm_convex.specs.Winding.{next_place, edge_after, corner_at}
use Rattle.qm_convex.proofs.Corners.{edge_after_listed, edge_after_here, edge_after_next}
use Rattle.qm_wind.proofs.winding.Winding.edge.Goals as goal

pub returns-clause-edge : goal.returns-clause-edge
returns-clause-edge c =
    subst (Contains c.args.self.now.edges) (sym (c.edge.ensures ∙ ap (λ v. edge_after v c.args.i) c.self.view_is)) (edge_after_listed c.args.self.now c.args.i c.requires)

pub returns-clause-corner : goal.returns-clause-corner
returns-clause-corner c =
    subst (λ h. IsOn h (corner_at c.args.self.now c.args.i)) (sym (c.edge.ensures ∙ ap (λ v. edge_after v c.args.i) c.self.view_is)) (edge_after_here c.args.self.now c.args.i)

pub returns-clause-next : goal.returns-clause-next
returns-clause-next c =
    subst (λ h. IsOn h (corner_at c.args.self.now (next_place (length c.args.self.now.edges) c.args.i))) (sym (c.edge.ensures ∙ ap (λ v. edge_after v c.args.i) c.self.view_is))
    (edge_after_next c.args.self.now c.args.i)
