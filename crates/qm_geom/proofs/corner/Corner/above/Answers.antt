use Rattle.std.proofs.Common.{sym, subst}
use Rattle.qm_numbers.specs.Rounding.{IsRoundedUp}
use Rattle.qm_space.specs.Coordinates.{HasSmallCoordinates}
use Rattle.qm_geom.proofs.Wide.{x_kept, y_kept, z_kept, rules_kept}
use Rattle.qm_geom.proofs.corner.Corner.above.Goals as goal

pub coordinate_above-requires : goal.coordinate_above-requires
coordinate_above-requires c = x_kept _ c.self.invariant (subst HasSmallCoordinates (sym c.self.view_is) c.requires)

pub coordinate_above-requires-2 : goal.coordinate_above-requires-2
coordinate_above-requires-2 c = y_kept _ c.self.invariant (subst HasSmallCoordinates (sym c.self.view_is) c.requires)

pub coordinate_above-requires-3 : goal.coordinate_above-requires-3
coordinate_above-requires-3 c = z_kept _ c.self.invariant (subst HasSmallCoordinates (sym c.self.view_is) c.requires)

pub returns : goal.returns
returns c =
    rw (← c.self.view_is)
    (rules_kept IsRoundedUp (record { x = c.self.inside.x; y = c.self.inside.y; z = c.self.inside.z; w = c.self.inside.w }) c.self.invariant c.coordinate_above.result c.coordinate_above-2.result c.coordinate_above-3.result
    (record { sfits = c.coordinate_above.type_inv }) (record { sfits = c.coordinate_above-2.type_inv }) (record { sfits = c.coordinate_above-3.type_inv }) c.coordinate_above.ensures c.coordinate_above-2.ensures c.coordinate_above-3.ensures)
