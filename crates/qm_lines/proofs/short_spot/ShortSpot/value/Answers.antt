use Rattle.std.proofs.Common.{◌^◌, ◌∙◌, ap, lit≤}
use Rattle.qm_numbers.proofs.Kept.{small_kept}
use Rattle.qm_space.specs.Bounds.{distance_bound}
use Rattle.qm_space.specs.Point.{Point}
use Rattle.qm_space.specs.Plane.{Plane, plane_of, value}
use Rattle.qm_lines.proofs.Values.{component_kept, two_fit, three_fit, less_fits, less_kept, spot_value, short_part, short_distance}
use Rattle.qm_lines.proofs.short_spot.ShortSpot.value.Goals as goal

pub along-along_x-requires : goal.along-along_x-requires
along-along_x-requires c = record {
  numerator = small_kept c.self.inside.x (2 ^ 33) (lit≤ tt) c.self.invariant.x_short;
  component = component_kept c.plane.inside.nx c.plane.invariant.nx_small;
}

pub along-along_y-requires : goal.along-along_y-requires
along-along_y-requires c = record {
  numerator = small_kept c.self.inside.y (2 ^ 33) (lit≤ tt) c.self.invariant.y_short;
  component = component_kept c.plane.inside.ny c.plane.invariant.ny_small;
}

pub along-along_z-requires : goal.along-along_z-requires
along-along_z-requires c = record {
  numerator = small_kept c.self.inside.z (2 ^ 33) (lit≤ tt) c.self.invariant.z_short;
  component = component_kept c.plane.inside.nz c.plane.invariant.nz_small;
}

pub far-far-requires : goal.far-far-requires
far-far-requires c = record {
  denominator = small_kept c.self.inside.w (2 ^ 18) (lit≤ tt) c.self.invariant.w_short;
  distance = small_kept c.plane.inside.d distance_bound (lit≤ tt) c.plane.invariant.d_small;
}

pub overflow_add-result : goal.overflow_add-result
overflow_add-result c = two_fit (2 ^ 59) (2 ^ 62) (lit≤ tt) c.along-along_x.result c.along-along_y.result c.along-along_z.result c.along-along_x.ensures.size c.along-along_y.ensures.size c.along-along_z.ensures.size

pub overflow_add-result-2 : goal.overflow_add-result-2
overflow_add-result-2 c = three_fit (2 ^ 59) (2 ^ 62) (lit≤ tt) c.along-along_x.result c.along-along_y.result c.along-along_z.result c.along-along_x.ensures.size c.along-along_y.ensures.size c.along-along_z.ensures.size

pub overflow_sub-result : goal.overflow_sub-result
overflow_sub-result c = less_fits (2 ^ 59) (2 ^ 62) (lit≤ tt) c.along-along_x.result c.along-along_y.result c.along-along_z.result c.along-along_x.ensures.size c.along-along_y.ensures.size c.along-along_z.ensures.size c.far-far.result c.far-far.ensures.size

pub returns : goal.returns
returns c =
    let h = plane_of c.plane.inside.nx c.plane.inside.ny c.plane.inside.nz c.plane.inside.d in
    let p : Point = record { x = c.self.inside.x; y = c.self.inside.y; z = c.self.inside.z; w = c.self.inside.w } in
    less_kept (2 ^ 59) (2 ^ 62) (lit≤ tt) c.along-along_x.result c.along-along_y.result c.along-along_z.result c.along-along_x.ensures.size c.along-along_y.ensures.size c.along-along_z.ensures.size c.far-far.result c.far-far.ensures.size
    ∙ spot_value h p c.along-along_x.result c.along-along_y.result c.along-along_z.result c.far-far.result
    (short_part _ p.x h.nx c.self.invariant.x_short c.plane.invariant.nx_small c.along-along_x.ensures.exact)
    (short_part _ p.y h.ny c.self.invariant.y_short c.plane.invariant.ny_small c.along-along_y.ensures.exact)
    (short_part _ p.z h.nz c.self.invariant.z_short c.plane.invariant.nz_small c.along-along_z.ensures.exact)
    (short_distance _ p.w h.d c.self.invariant.w_short c.plane.invariant.d_small c.far-far.ensures.exact)
    ∙ ap (λ (h : Plane). value h p) c.plane.view_is
    ∙ ap (λ (p : Point). value c.args.plane.now p) c.self.view_is
