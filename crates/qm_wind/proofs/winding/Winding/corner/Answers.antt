use Rattle.std.proofs.Common.{◌∙◌, ap}
use Rattle.qm_convex.specs.Winding.{corner_at}
use Rattle.qm_wind.proofs.Worlds.{is_vertex, is_in_closed_cube, is_small}
use Rattle.qm_wind.proofs.winding.Winding.corner.Goals as goal

pub returns-clause-vertex : goal.returns-clause-vertex
returns-clause-vertex c =
    is_vertex _ c.args.self.now c.args.i _ c.self.view_is c.self.invariant.in_world c.requires (c.corner.ensures ∙ ap (λ v. corner_at v c.args.i) c.self.view_is)

pub returns-clause-in_closed_cube : goal.returns-clause-in_closed_cube
returns-clause-in_closed_cube c =
    is_in_closed_cube _ c.args.self.now c.args.i _ c.self.view_is c.self.invariant.in_world c.requires (c.corner.ensures ∙ ap (λ v. corner_at v c.args.i) c.self.view_is)

pub returns-clause-small : goal.returns-clause-small
returns-clause-small c =
    is_small _ c.args.self.now c.args.i _ c.self.view_is c.self.invariant.in_world c.requires (c.corner.ensures ∙ ap (λ v. corner_at v c.args.i) c.self.view_is)
