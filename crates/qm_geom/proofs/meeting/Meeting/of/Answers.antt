use Rattle.std.proofs.Common.{◌^◌, ap, lit≤, sym, subst}
use Rattle.qm_space.specs.Meet.{HasMeetSizes}
use Rattle.qm_space.specs.Reduced.{IsReduced}
use Rattle.qm_space.proofs.Sizes.{meet_sizes}
use Rattle.qm_geom.proofs.ByCrosses.{distances_small, meeting_is}
use Rattle.qm_geom.proofs.Vectors.{HasSmallComponents-more}
use Rattle.qm_geom.proofs.meeting.Meeting.of.Goals as goal

pub dot-requires : goal.dot-requires
dot-requires c =
    distances_small c.a.inside.d c.b.inside.d c.c.inside.d c.a.invariant.d_small c.b.invariant.d_small c.c.invariant.d_small

pub dot-requires-2 : goal.dot-requires-2
dot-requires-2 c =
    distances_small c.a.inside.d c.b.inside.d c.c.inside.d c.a.invariant.d_small c.b.invariant.d_small c.c.invariant.d_small

pub dot-requires-3 : goal.dot-requires-3
dot-requires-3 c =
    distances_small c.a.inside.d c.b.inside.d c.c.inside.d c.a.invariant.d_small c.b.invariant.d_small c.c.invariant.d_small

pub dot-requires-4 : goal.dot-requires-4
dot-requires-4 c = HasSmallComponents-more c.normal.result (2 ^ 26) (2 ^ 53) c.normal.ensures.size (lit≤ tt)

pub returns : goal.returns
returns c =
    meeting_is c.args.a.now c.args.b.now c.args.c.now c.a.inside.d c.b.inside.d c.c.inside.d
    c.normals_crossed-across_a.result c.normals_crossed-across_b.result c.normals_crossed-across_c.result c.normal.result
    c.dot.result c.dot-2.result c.dot-3.result c.dot-4.result
    (record {
      of_a = ap (λ h. h.d) c.a.view_is;
      of_b = ap (λ h. h.d) c.b.view_is;
      of_c = ap (λ h. h.d) c.c.view_is;
      across_a = c.normals_crossed-across_a.ensures.exact;
      across_b = c.normals_crossed-across_b.ensures.exact;
      across_c = c.normals_crossed-across_c.ensures.exact;
      normal = c.normal.ensures.exact;
      a_small = c.a.invariant.d_small;
      b_small = c.b.invariant.d_small;
      c_small = c.c.invariant.d_small;
      u_small = c.normals_crossed-across_a.ensures.size;
      v_small = c.normals_crossed-across_b.ensures.size;
      w_small = c.normals_crossed-across_c.ensures.size;
    })
    (record {
      of_x = c.dot.ensures.exact;
      of_y = c.dot-2.ensures.exact;
      of_z = c.dot-3.ensures.exact;
      of_w = c.dot-4.ensures.exact;
      x_small = c.dot.ensures.size;
      y_small = c.dot-2.ensures.size;
      z_small = c.dot-3.ensures.size;
      w_small = c.dot-4.ensures.size;
    })

pub invariant_of-result : goal.invariant_of-result
invariant_of-result c =
    subst HasMeetSizes (sym (returns c))
    (meet_sizes _ _ _ (subst IsReduced c.a.view_is c.a.invariant) (subst IsReduced c.b.view_is c.b.invariant) (subst IsReduced c.c.view_is c.c.invariant))
