use Rattle.std.proofs.Common.{◌^◌, ◌∙◌, pos, neg_ℤ, ap, lit≤, lit<}
use Rattle.qm_numbers.proofs.Kept.{small_kept}
use Rattle.qm_space.specs.Point.{whole_point, point_sum, point_times}
use Rattle.qm_space.proofs.CoordinateSizes.{coordinate_kept}
use Rattle.qm_space.proofs.Planes.{same_point}
use Rattle.qm_segments.specs.Segment.{Segment}
use Rattle.qm_lines.proofs.Values.{mixed_answered, mixed_weight, mixed_weight_fits, short_value, mixed_short, weight_short}
use Rattle.qm_lines.proofs.line.Line.short_mixed.Goals as goal

pub mixed-requires : goal.mixed-requires
mixed-requires c = record {
  from = small_kept c.args.from (2 ^ 45) (lit≤ tt) (short_value c.args.from c.requires.from);
  begin = coordinate_kept _ (c.self.invariant.0 0 (pos 0) (rw c.self.told.0 (lit< tt)));
  to = small_kept c.args.to (2 ^ 45) (lit≤ tt) (short_value c.args.to c.requires.to);
  end = coordinate_kept _ (c.self.invariant.1 0 (pos 0) (rw c.self.told.1 (lit< tt)));
}

pub mixed-requires-2 : goal.mixed-requires-2
mixed-requires-2 c = record {
  from = small_kept c.args.from (2 ^ 45) (lit≤ tt) (short_value c.args.from c.requires.from);
  begin = coordinate_kept _ (c.self.invariant.0 1 (pos 0) (rw c.self.told.0 (lit< tt)));
  to = small_kept c.args.to (2 ^ 45) (lit≤ tt) (short_value c.args.to c.requires.to);
  end = coordinate_kept _ (c.self.invariant.1 1 (pos 0) (rw c.self.told.1 (lit< tt)));
}

pub mixed-requires-3 : goal.mixed-requires-3
mixed-requires-3 c = record {
  from = small_kept c.args.from (2 ^ 45) (lit≤ tt) (short_value c.args.from c.requires.from);
  begin = coordinate_kept _ (c.self.invariant.0 2 (pos 0) (rw c.self.told.0 (lit< tt)));
  to = small_kept c.args.to (2 ^ 45) (lit≤ tt) (short_value c.args.to c.requires.to);
  end = coordinate_kept _ (c.self.invariant.1 2 (pos 0) (rw c.self.told.1 (lit< tt)));
}

pub overflow_sub-result : goal.overflow_sub-result
overflow_sub-result c = mixed_weight_fits c.args.from c.args.to (pos 0) (pos 0) (short_value c.args.from c.requires.from) (short_value c.args.to c.requires.to)

pub returns : goal.returns
returns c =
    let f = c.args.from in
    let t = c.args.to in
    let s : Segment = record { from = whole_point c.self.inside.from; to = whole_point c.self.inside.to } in
    same_point _ (point_sum (point_times f s.from) (point_times (neg_ℤ t) s.to))
    (mixed_answered f t _ _ (short_value c.args.from c.requires.from) (short_value c.args.to c.requires.to) c.mixed.result (record { sfits = c.mixed.type_inv })
    (c.self.invariant.0 0 (pos 0) (rw c.self.told.0 (lit< tt))) (c.self.invariant.1 0 (pos 0) (rw c.self.told.1 (lit< tt))) c.mixed.ensures)
    (mixed_answered f t _ _ (short_value c.args.from c.requires.from) (short_value c.args.to c.requires.to) c.mixed-2.result (record { sfits = c.mixed-2.type_inv })
    (c.self.invariant.0 1 (pos 0) (rw c.self.told.0 (lit< tt))) (c.self.invariant.1 1 (pos 0) (rw c.self.told.1 (lit< tt))) c.mixed-2.ensures)
    (mixed_answered f t _ _ (short_value c.args.from c.requires.from) (short_value c.args.to c.requires.to) c.mixed-3.result (record { sfits = c.mixed-3.type_inv })
    (c.self.invariant.0 2 (pos 0) (rw c.self.told.0 (lit< tt))) (c.self.invariant.1 2 (pos 0) (rw c.self.told.1 (lit< tt))) c.mixed-3.ensures)
    (mixed_weight f t (pos 0) (pos 0) (short_value c.args.from c.requires.from) (short_value c.args.to c.requires.to))
    ∙ ap (λ (s : Segment). point_sum (point_times f s.from) (point_times (neg_ℤ t) s.to)) c.self.view_is

pub invariant_of-result : goal.invariant_of-result
invariant_of-result c =
    let f = c.args.from in
    let t = c.args.to in
    let f_small = short_value f c.requires.from in
    let t_small = short_value t c.requires.to in
    let xb = c.self.invariant.0 0 (pos 0) (rw c.self.told.0 (lit< tt)) in
    let xe = c.self.invariant.1 0 (pos 0) (rw c.self.told.1 (lit< tt)) in
    let yb = c.self.invariant.0 1 (pos 0) (rw c.self.told.0 (lit< tt)) in
    let ye = c.self.invariant.1 1 (pos 0) (rw c.self.told.1 (lit< tt)) in
    let zb = c.self.invariant.0 2 (pos 0) (rw c.self.told.0 (lit< tt)) in
    let ze = c.self.invariant.1 2 (pos 0) (rw c.self.told.1 (lit< tt)) in
    record {
      x_short = rw (mixed_answered f t _ _ f_small t_small c.mixed.result (record { sfits = c.mixed.type_inv }) xb xe c.mixed.ensures) (mixed_short f t _ _ c.requires.from c.requires.to xb xe);
      y_short = rw (mixed_answered f t _ _ f_small t_small c.mixed-2.result (record { sfits = c.mixed-2.type_inv }) yb ye c.mixed-2.ensures) (mixed_short f t _ _ c.requires.from c.requires.to yb ye);
      z_short = rw (mixed_answered f t _ _ f_small t_small c.mixed-3.result (record { sfits = c.mixed-3.type_inv }) zb ze c.mixed-3.ensures) (mixed_short f t _ _ c.requires.from c.requires.to zb ze);
      w_short = rw (mixed_weight f t (pos 0) (pos 0) f_small t_small) (weight_short f t (pos 0) (pos 0) c.requires.from c.requires.to);
    }
