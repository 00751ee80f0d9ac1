use Rattle.std.proofs.Common.{rules, ◌^◌, ◌∙◌, ap, lit≤}
use Rattle.qm_numbers.proofs.Kept.{three_fit}
use Rattle.qm_space.specs.Point.{Point}
use Rattle.qm_space.specs.Plane.{Plane, plane_of, value}
use Rattle.qm_lines.proofs.Values.{four_fits, four_are, spot_product, spot_distance, spot_value}
use Rattle.qm_lines.proofs.spot.Spot.value.Goals as goal

pub overflow_add-result-2 : goal.overflow_add-result-2
overflow_add-result-2 c = three_fit c.product-along_x.result c.product-along_y.result c.product-along_z.result (2 ^ 108) c.product-along_x.ensures.size c.product-along_y.ensures.size c.product-along_z.ensures.size (lit≤ tt)

pub overflow_sub-result : goal.overflow_sub-result
overflow_sub-result c = four_fits c.product-along_x.result c.product-along_y.result c.product-along_z.result c.product-far.result c.product-along_x.ensures.size c.product-along_y.ensures.size c.product-along_z.ensures.size c.product-far.ensures.size

pub returns : goal.returns
returns c =
    let h = plane_of c.plane.inside.nx c.plane.inside.ny c.plane.inside.nz c.plane.inside.d in
    let p : Point = record { x = c.self.inside.x; y = c.self.inside.y; z = c.self.inside.z; w = c.self.inside.w } in
    four_are c.product-along_x.result c.product-along_y.result c.product-along_z.result c.product-far.result c.product-along_x.ensures.size c.product-along_y.ensures.size c.product-along_z.ensures.size c.product-far.ensures.size
    ∙ spot_value h p c.product-along_x.result c.product-along_y.result c.product-along_z.result c.product-far.result
    (spot_product c.product-along_x.result c.self.inside.x c.plane.inside.nx c.from.result (search rules) c.plane.invariant.nx_small c.from.ensures c.product-along_x.ensures.exact)
    (spot_product c.product-along_y.result c.self.inside.y c.plane.inside.ny c.from-2.result (search rules) c.plane.invariant.ny_small c.from-2.ensures c.product-along_y.ensures.exact)
    (spot_product c.product-along_z.result c.self.inside.z c.plane.inside.nz c.from-3.result (search rules) c.plane.invariant.nz_small c.from-3.ensures c.product-along_z.ensures.exact)
    (spot_distance c.product-far.result c.self.inside.w c.plane.inside.d (search rules) c.plane.invariant.d_small c.product-far.ensures.exact)
    ∙ ap (λ (h : Plane). value h p) c.plane.view_is
    ∙ ap (λ (p : Point). value c.args.plane.now p) c.self.view_is
