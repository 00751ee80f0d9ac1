use Rattle.std.proofs.Common.{◌^◌, ◌∙◌, pos, neg_ℤ, ap, lit≤, lit<}
use Rattle.qm_numbers.proofs.Kept.{small_kept}
use Rattle.qm_space.specs.Point.{whole_point, point_sum, point_times}
use Rattle.qm_space.proofs.CoordinateSizes.{coordinate_kept}
use Rattle.qm_space.proofs.Planes.{same_point}
use Rattle.qm_segments.specs.Segment.{Segment}
use Rattle.qm_lines.proofs.Values.{mixed_answered, mixed_weight, mixed_weight_fits}
use Rattle.qm_lines.proofs.line.Line.mixed.Goals as goal

pub mixed-requires : goal.mixed-requires
mixed-requires c = record {
  from = small_kept c.args.from (2 ^ 45) (lit≤ tt) c.requires.from;
  begin = coordinate_kept _ (c.self.invariant.0 0 (pos 0) (rw c.self.told.0 (lit< tt)));
  to = small_kept c.args.to (2 ^ 45) (lit≤ tt) c.requires.to;
  end = coordinate_kept _ (c.self.invariant.1 0 (pos 0) (rw c.self.told.1 (lit< tt)));
}

pub mixed-requires-2 : goal.mixed-requires-2
mixed-requires-2 c = record {
  from = small_kept c.args.from (2 ^ 45) (lit≤ tt) c.requires.from;
  begin = coordinate_kept _ (c.self.invariant.0 1 (pos 0) (rw c.self.told.0 (lit< tt)));
  to = small_kept c.args.to (2 ^ 45) (lit≤ tt) c.requires.to;
  end = coordinate_kept _ (c.self.invariant.1 1 (pos 0) (rw c.self.told.1 (lit< tt)));
}

pub mixed-requires-3 : goal.mixed-requires-3
mixed-requires-3 c = record {
  from = small_kept c.args.from (2 ^ 45) (lit≤ tt) c.requires.from;
  begin = coordinate_kept _ (c.self.invariant.0 2 (pos 0) (rw c.self.told.0 (lit< tt)));
  to = small_kept c.args.to (2 ^ 45) (lit≤ tt) c.requires.to;
  end = coordinate_kept _ (c.self.invariant.1 2 (pos 0) (rw c.self.told.1 (lit< tt)));
}

pub overflow_sub-result : goal.overflow_sub-result
overflow_sub-result c = mixed_weight_fits c.args.from c.args.to (pos 0) (pos 0) c.requires.from c.requires.to

pub returns : goal.returns
returns c =
    let f = c.args.from in
    let t = c.args.to in
    let s : Segment = record { from = whole_point c.self.inside.from; to = whole_point c.self.inside.to } in
    same_point _ (point_sum (point_times f s.from) (point_times (neg_ℤ t) s.to))
    (mixed_answered f t _ _ c.requires.from c.requires.to c.mixed.result (record { sfits = c.mixed.type_inv })
    (c.self.invariant.0 0 (pos 0) (rw c.self.told.0 (lit< tt))) (c.self.invariant.1 0 (pos 0) (rw c.self.told.1 (lit< tt))) c.mixed.ensures)
    (mixed_answered f t _ _ c.requires.from c.requires.to c.mixed-2.result (record { sfits = c.mixed-2.type_inv })
    (c.self.invariant.0 1 (pos 0) (rw c.self.told.0 (lit< tt))) (c.self.invariant.1 1 (pos 0) (rw c.self.told.1 (lit< tt))) c.mixed-2.ensures)
    (mixed_answered f t _ _ c.requires.from c.requires.to c.mixed-3.result (record { sfits = c.mixed-3.type_inv })
    (c.self.invariant.0 2 (pos 0) (rw c.self.told.0 (lit< tt))) (c.self.invariant.1 2 (pos 0) (rw c.self.told.1 (lit< tt))) c.mixed-3.ensures)
    (mixed_weight f t (pos 0) (pos 0) c.requires.from c.requires.to)
    ∙ ap (λ (s : Segment). point_sum (point_times f s.from) (point_times (neg_ℤ t) s.to)) c.self.view_is
