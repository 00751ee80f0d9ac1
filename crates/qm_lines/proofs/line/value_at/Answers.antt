use Rattle.std.proofs.Common.{rules, ◌^◌, ◌∙◌, pos, ap, lit≤}
use Rattle.qm_space.specs.Bounds.{product_bound, distance_bound}
use Rattle.qm_space.specs.Point.{whole_point}
use Rattle.qm_space.specs.Plane.{Plane, plane_of, value}
use Rattle.qm_space.proofs.CoordinateSizes.{coordinate_kept}
use Rattle.qm_lines.proofs.Values.{component_kept, part_is, whole_value, two_fit, three_fit, less_fits, less_kept, less_kept_small}
use Rattle.qm_lines.proofs.line.value_at.Goals as goal

pub times-along_x-requires : goal.times-along_x-requires
times-along_x-requires c = record {
  component = component_kept c.plane.inside.nx c.plane.invariant.nx_small;
  coordinate = coordinate_kept _ (c.requires 0 (pos 0) (search rules));
}

pub times-along_y-requires : goal.times-along_y-requires
times-along_y-requires c = record {
  component = component_kept c.plane.inside.ny c.plane.invariant.ny_small;
  coordinate = coordinate_kept _ (c.requires 1 (pos 0) (search rules));
}

pub times-along_z-requires : goal.times-along_z-requires
times-along_z-requires c = record {
  component = component_kept c.plane.inside.nz c.plane.invariant.nz_small;
  coordinate = coordinate_kept _ (c.requires 2 (pos 0) (search rules));
}

pub overflow_add-result : goal.overflow_add-result
overflow_add-result c = two_fit product_bound distance_bound (lit≤ tt) c.times-along_x.result c.times-along_y.result c.times-along_z.result c.times-along_x.ensures.size c.times-along_y.ensures.size c.times-along_z.ensures.size

pub overflow_add-result-2 : goal.overflow_add-result-2
overflow_add-result-2 c = three_fit product_bound distance_bound (lit≤ tt) c.times-along_x.result c.times-along_y.result c.times-along_z.result c.times-along_x.ensures.size c.times-along_y.ensures.size c.times-along_z.ensures.size

pub overflow_sub-result : goal.overflow_sub-result
overflow_sub-result c =
    less_fits product_bound distance_bound (lit≤ tt) c.times-along_x.result c.times-along_y.result c.times-along_z.result c.times-along_x.ensures.size c.times-along_y.ensures.size c.times-along_z.ensures.size c.plane.inside.d c.plane.invariant.d_small

pub returns-clause-exact : goal.returns-clause-exact
returns-clause-exact c =
    let h = plane_of c.plane.inside.nx c.plane.inside.ny c.plane.inside.nz c.plane.inside.d in
    less_kept product_bound distance_bound (lit≤ tt) c.times-along_x.result c.times-along_y.result c.times-along_z.result c.times-along_x.ensures.size c.times-along_y.ensures.size c.times-along_z.ensures.size c.plane.inside.d c.plane.invariant.d_small
    ∙ whole_value h c.args.at.now c.times-along_x.result c.times-along_y.result c.times-along_z.result
    (part_is _ _ _ c.plane.invariant.nx_small (c.requires 0 (pos 0) (search rules)) c.times-along_x.ensures.exact)
    (part_is _ _ _ c.plane.invariant.ny_small (c.requires 1 (pos 0) (search rules)) c.times-along_y.ensures.exact)
    (part_is _ _ _ c.plane.invariant.nz_small (c.requires 2 (pos 0) (search rules)) c.times-along_z.ensures.exact)
    ∙ ap (λ (h : Plane). value h (whole_point c.args.at.now)) c.plane.view_is

pub returns-clause-size : goal.returns-clause-size
returns-clause-size c =
    less_kept_small product_bound distance_bound (lit≤ tt) c.times-along_x.result c.times-along_y.result c.times-along_z.result c.times-along_x.ensures.size c.times-along_y.ensures.size c.times-along_z.ensures.size c.plane.inside.d c.plane.invariant.d_small (2 ^ 45) (lit≤ tt)
