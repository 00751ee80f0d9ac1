use Rattle.std.proofs.Common.{sym, subst}
use Rattle.qm_numbers.specs.Rounding.{IsRoundedDown}
use Rattle.qm_space.specs.Coordinates.{HasSmallCoordinates}
use Rattle.qm_geom.proofs.Wide.{x_kept, y_kept, z_kept, rules_kept}
use Rattle.qm_geom.proofs.corner.Corner.below.Goals as goal

pub coordinate_below-requires : goal.coordinate_below-requires
coordinate_below-requires c = x_kept _ c.self.invariant (subst HasSmallCoordinates (sym c.self.view_is) c.requires)

pub coordinate_below-requires-2 : goal.coordinate_below-requires-2
coordinate_below-requires-2 c = y_kept _ c.self.invariant (subst HasSmallCoordinates (sym c.self.view_is) c.requires)

pub coordinate_below-requires-3 : goal.coordinate_below-requires-3
coordinate_below-requires-3 c = z_kept _ c.self.invariant (subst HasSmallCoordinates (sym c.self.view_is) c.requires)

pub returns : goal.returns
returns c =
    rw (← c.self.view_is)
    (rules_kept IsRoundedDown (record { x = c.self.inside.x; y = c.self.inside.y; z = c.self.inside.z; w = c.self.inside.w }) c.self.invariant c.coordinate_below.result c.coordinate_below-2.result c.coordinate_below-3.result
    (record { sfits = c.coordinate_below.type_inv }) (record { sfits = c.coordinate_below-2.type_inv }) (record { sfits = c.coordinate_below-3.type_inv }) c.coordinate_below.ensures c.coordinate_below-2.ensures c.coordinate_below-3.ensures)
