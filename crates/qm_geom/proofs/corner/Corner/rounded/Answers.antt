use Rattle.std.proofs.Common.{sym, subst}
use Rattle.qm_numbers.specs.Rounding.{IsNearest}
use Rattle.qm_space.specs.Coordinates.{HasSmallCoordinates}
use Rattle.qm_geom.proofs.Wide.{x_kept, y_kept, z_kept, rules_kept}
use Rattle.qm_geom.proofs.corner.Corner.rounded.Goals as goal

pub nearest_coordinate-requires : goal.nearest_coordinate-requires
nearest_coordinate-requires c = x_kept _ c.self.invariant (subst HasSmallCoordinates (sym c.self.view_is) c.requires)

pub nearest_coordinate-requires-2 : goal.nearest_coordinate-requires-2
nearest_coordinate-requires-2 c = y_kept _ c.self.invariant (subst HasSmallCoordinates (sym c.self.view_is) c.requires)

pub nearest_coordinate-requires-3 : goal.nearest_coordinate-requires-3
nearest_coordinate-requires-3 c = z_kept _ c.self.invariant (subst HasSmallCoordinates (sym c.self.view_is) c.requires)

pub returns : goal.returns
returns c =
    rw (← c.self.view_is)
    (rules_kept IsNearest (record { x = c.self.inside.x; y = c.self.inside.y; z = c.self.inside.z; w = c.self.inside.w }) c.self.invariant c.nearest_coordinate.result c.nearest_coordinate-2.result c.nearest_coordinate-3.result
    (record { sfits = c.nearest_coordinate.type_inv }) (record { sfits = c.nearest_coordinate-2.type_inv }) (record { sfits = c.nearest_coordinate-3.type_inv }) c.nearest_coordinate.ensures c.nearest_coordinate-2.ensures c.nearest_coordinate-3.ensures)
