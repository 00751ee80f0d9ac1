use Rattle.std.proofs.Common.{rules, ap}
use Rattle.qm_space.specs.Cuboid.{Cuboid}
use Rattle.qm_facets.proofs.Joining.{corner_joined}
use Rattle.qm_half_spaces.proofs.WidenedExtents.{stretch_widened}
use Rattle.qm_half_spaces.proofs.extents.Extents.with_corner.Goals as goal

pub returns : goal.returns
returns c =
    let p = c.args.corner.now in
    let old = c.args.self in
    let down = c.around.ensures.below in
    let up = c.around.ensures.above in
    corner_joined old _ p c.requires.weight
    (stretch_widened p.x p.w old.x _ _ _ _ c.lower_end.result c.higher_end.result (search rules) (search rules) (record { sfits = c.lower_end.type_inv }) (record { sfits = c.higher_end.type_inv })
    (ap (λ (e : Cuboid). e.x.low) c.self.view_is) (ap (λ (e : Cuboid). e.x.high) c.self.view_is) down.of_x up.of_x c.lower_end.ensures c.higher_end.ensures)
    (stretch_widened p.y p.w old.y _ _ _ _ c.lower_end-2.result c.higher_end-2.result (search rules) (search rules) (record { sfits = c.lower_end-2.type_inv }) (record { sfits = c.higher_end-2.type_inv })
    (ap (λ (e : Cuboid). e.y.low) c.self.view_is) (ap (λ (e : Cuboid). e.y.high) c.self.view_is) down.of_y up.of_y c.lower_end-2.ensures c.higher_end-2.ensures)
    (stretch_widened p.z p.w old.z _ _ _ _ c.lower_end-3.result c.higher_end-3.result (search rules) (search rules) (record { sfits = c.lower_end-3.type_inv }) (record { sfits = c.higher_end-3.type_inv })
    (ap (λ (e : Cuboid). e.z.low) c.self.view_is) (ap (λ (e : Cuboid). e.z.high) c.self.view_is) down.of_z up.of_z c.lower_end-3.ensures c.higher_end-3.ensures)
