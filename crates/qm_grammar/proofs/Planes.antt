-- Whether three points give a plane, as it is computed.
use Rattle.std.proofs.Common.{◌≡◌, Bool, true, false, not, ◌||◌, ◌&&◌, ℤ, pos, List, [], slice_index_or, refl, sym, ◌∙◌, int_eq, ltb, unsigned_abs}
use Rattle.std.proofs.lemmas.Bool.{true≢false, true_from_ne_false, false_from_ne_true, both_ways, and_from, and_left, and_parts, and_right, or_left, or_parts, or_right, lt-ltb, ltb-true, not_from_false, not_from_true, not-false, not-true}
use Rattle.std.proofs.lemmas.Bool.Decides.{Decides-int_eq}
use Rattle.qm_space.specs.Bounds.{normal_bound}
use Rattle.qm_space.specs.Plane.{Plane}
use Rattle.qm_space.specs.Reduced.{HasNoNormal, HasLargeNormal, large_x, large_y, large_z}
use Rattle.qm_space.specs.ThreePoints.{outward_plane, plane_through}
use Rattle.qm_space.proofs.Lines.{HaveOneWeight, thousandths_weights}
use Rattle.qm_space.proofs.PlanesThroughPoints.{one_line_no_normal, no_normal_one_line}
use Rattle.qm_mapfile.specs.Face.{SpanPlane, SpanTooFine, GivePlane, point_at}
use Rattle.qm_grammar.specs.declared.refusal.Refusal.{Refusal}
use Rattle.qm_grammar.specs.declared.refusal.Refusal.TheVariants as refusal
use Rattle.qm_grammar.specs.inner.Machine.{has_normal, span_plane, has_large_normal, give_plane, plane_refusal}

-- ---- three points on one line

is_zero : (n : ℤ) → n ≡ pos 0 → int_eq n (pos 0) ≡ true
is_zero n e = (Decides-int_eq n (pos 0)).1 e

zero_is : (n : ℤ) → int_eq n (pos 0) ≡ true → n ≡ pos 0
zero_is n e = (Decides-int_eq n (pos 0)).0 e

zero_parts : (x y z : Bool) → x ≡ true → y ≡ true → z ≡ true → (not x || not y || not z) ≡ false
zero_parts x y z a b c = rw (a, b, c) refl

none_tested : (h : Plane) → HasNoNormal h → has_normal h ≡ false
none_tested h none = zero_parts (int_eq h.nx (pos 0)) (int_eq h.ny (pos 0)) (int_eq h.nz (pos 0)) (is_zero h.nx none.0) (is_zero h.ny none.1) (is_zero h.nz none.2)

tested_none : (h : Plane) → has_normal h ≡ false → HasNoNormal h
tested_none h e =
    let first = or_parts (not (int_eq h.nx (pos 0)) || not (int_eq h.ny (pos 0))) (not (int_eq h.nz (pos 0))) e in
    let second = or_parts (not (int_eq h.nx (pos 0))) (not (int_eq h.ny (pos 0))) first.0 in
    (zero_is h.nx (not-false (int_eq h.nx (pos 0)) second.0), zero_is h.ny (not-false (int_eq h.ny (pos 0)) second.1), zero_is h.nz (not-false (int_eq h.nz (pos 0)) first.1))

-- ---- a normal beyond its bound

large_by : (h : Plane) (x y z : Bool) → ltb normal_bound (unsigned_abs h.nx) ≡ x → ltb normal_bound (unsigned_abs h.ny) ≡ y → ltb normal_bound (unsigned_abs h.nz) ≡ z → (x || y || z) ≡ true → HasLargeNormal h
large_by h true y z a b c either = large_x (ltb-true normal_bound (unsigned_abs h.nx) a)
large_by h false true z a b c either = large_y (ltb-true normal_bound (unsigned_abs h.ny) b)
large_by h false false true a b c either = large_z (ltb-true normal_bound (unsigned_abs h.nz) c)
large_by h false false false a b c either = absurd (true≢false (sym either))

tested_large : (h : Plane) → has_large_normal h ≡ true → HasLargeNormal h
tested_large h e = large_by h (ltb normal_bound (unsigned_abs h.nx)) (ltb normal_bound (unsigned_abs h.ny)) (ltb normal_bound (unsigned_abs h.nz)) refl refl refl e

large_tested : (h : Plane) → HasLargeNormal h → has_large_normal h ≡ true
large_tested h (large_x beyond) =
    or_left (ltb normal_bound (unsigned_abs h.nx) || ltb normal_bound (unsigned_abs h.ny)) (ltb normal_bound (unsigned_abs h.nz))
    (or_left (ltb normal_bound (unsigned_abs h.nx)) (ltb normal_bound (unsigned_abs h.ny)) (lt-ltb normal_bound (unsigned_abs h.nx) beyond))
large_tested h (large_y beyond) =
    or_left (ltb normal_bound (unsigned_abs h.nx) || ltb normal_bound (unsigned_abs h.ny)) (ltb normal_bound (unsigned_abs h.nz))
    (or_right (ltb normal_bound (unsigned_abs h.nx)) (ltb normal_bound (unsigned_abs h.ny)) (lt-ltb normal_bound (unsigned_abs h.ny) beyond))
large_tested h (large_z beyond) =
    or_right (ltb normal_bound (unsigned_abs h.nx) || ltb normal_bound (unsigned_abs h.ny)) (ltb normal_bound (unsigned_abs h.nz))
    (lt-ltb normal_bound (unsigned_abs h.nz) beyond)

-- why three points give no plane
pub data IsRefusedPlane (points : List (List ℤ)) : Refusal → Type 0 where
  on_line : (SpanPlane points → ⊥) → IsRefusedPlane points refusal.NoNormal
  fine : SpanTooFine points → IsRefusedPlane points refusal.PlaneTooFine

module _ (points : List (List ℤ)) where
  weights : HaveOneWeight (point_at points 0) (point_at points 1) (point_at points 2)
  weights = thousandths_weights (slice_index_or points 0 []) (slice_index_or points 1 []) (slice_index_or points 2 [])

  abbrev outward : Plane
  outward = outward_plane (point_at points 0) (point_at points 1) (point_at points 2)

  abbrev through : Plane
  through = (plane_through (point_at points 0) (point_at points 1) (point_at points 2)).0

  -- points that do not span a plane
  pub false_span : span_plane points ≡ false → SpanPlane points → ⊥
  unfolding span_plane
  false_span e spans = spans (no_normal_one_line (point_at points 0) (point_at points 1) (point_at points 2) weights (tested_none outward e))

  -- points that span one
  pub true_span : span_plane points ≡ true → SpanPlane points
  unfolding span_plane
  true_span e = λ line. true≢false (sym e ∙ none_tested outward (one_line_no_normal (point_at points 0) (point_at points 1) (point_at points 2) weights line))

  pub span_true : SpanPlane points → span_plane points ≡ true
  span_true spans = true_from_ne_false (span_plane points) (λ e. false_span e spans)

  pub span_false : (SpanPlane points → ⊥) → span_plane points ≡ false
  span_false flat = false_from_ne_true (span_plane points) (λ e. flat (true_span e))

  -- points that give a plane
  pub true_give : give_plane points ≡ true → GivePlane points
  unfolding give_plane
  true_give e =
      let both = and_parts (span_plane points) (not (has_large_normal through)) e in
      record {
        spans = true_span both.0;
        not_too_fine = λ found. both_ways (has_large_normal through) (not-true (has_large_normal through) both.1) (large_tested through found.large);
      }

  pub give_true : GivePlane points → give_plane points ≡ true
  unfolding give_plane
  give_true gives =
      and_from (span_plane points) (not (has_large_normal through)) (span_true gives.spans)
      (not_from_false (has_large_normal through)
      (false_from_ne_true (has_large_normal through) (λ large. gives.not_too_fine (record { apart = gives.spans; large = tested_large through large }))))

  -- points that give none
  refused_by : (spans large : Bool) → span_plane points ≡ spans → has_large_normal through ≡ large → (spans && not large) ≡ false → IsRefusedPlane points (plane_refusal points)
  unfolding plane_refusal
  refused_by true true s l e = rw s (fine (record { apart = true_span s; large = tested_large through l }))
  refused_by true false s l e = absurd (true≢false e)
  refused_by false large s l e = rw s (on_line (false_span s))

  pub give_false : give_plane points ≡ false → IsRefusedPlane points (plane_refusal points)
  unfolding give_plane
  give_false e = refused_by (span_plane points) (has_large_normal through) refl refl e

  pub false_give : (reason : Refusal) → IsRefusedPlane points reason → (give_plane points ≡ false) × (plane_refusal points ≡ reason)
  unfolding give_plane plane_refusal
  false_give reason (on_line flat) =
      let none = span_false flat in
      (and_left (span_plane points) (not (has_large_normal through)) none, rw none refl)
  false_give reason (fine found) =
      let some = span_true found.apart in
      (and_right (span_plane points) (not (has_large_normal through)) (not_from_true (has_large_normal through) (large_tested through found.large)), rw some refl)
