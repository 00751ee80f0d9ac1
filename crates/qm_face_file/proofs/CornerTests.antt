-- Three named planes meet in just one point where a corner is found for them.
use Rattle.std.proofs.Common.{◌≡◌, ℕ, ℤ, pos, negsuc, Bool, not, eqb, List, get_or, Option, Some, None, is_some, refl, sym, ap, subst, ◌∙◌, arith, w64, to_z, of_z}
use Rattle.std.specs.Prelude.{FitsSigned, unsigned_abs, IfSome, IfNone}
use Rattle.std.proofs.lemmas.Int.{ints, to_z-of_z}
use Rattle.qm_numbers.proofs.IntegerProducts.{linear}
use Rattle.qm_numbers.proofs.Signs.{by_zero}
use Rattle.qm_space.specs.Point.{Point}
use Rattle.qm_space.specs.Plane.{Plane}
use Rattle.qm_space.specs.Meet.{meet}
use Rattle.qm_geom.specs.Corners.{with_positive_weight, MeetOnlyIn}
use Rattle.qm_geom.proofs.OnlyMeetings.{turned_positive, turned_is_only}
use Rattle.qm_face_layout.specs.PlaneNumbers.{named_plane}
use Rattle.qm_face_layout.specs.FacesLayout.{meet_in_point, is_face_corner}
use Rattle.qm_face_layout.proofs.ValidFaces.{weight_test}

pub positive_none : (p : Point) → p.w ≡ pos 0 → (with_positive_weight p).w ≡ pos 0
unfolding with_positive_weight
positive_none p none = subst (λ (w : ℤ). (with_positive_weight (record { x = p.x; y = p.y; z = p.z; w = w })).w ≡ pos 0) (sym none) refl

pub positive_back : (p : Point) → (with_positive_weight p).w ≡ pos 0 → p.w ≡ pos 0
unfolding with_positive_weight
positive_back p = at p.x p.y p.z p.w
  where
    at : (x y z w : ℤ) → (with_positive_weight (record { x = x; y = y; z = z; w = w })).w ≡ pos 0 → w ≡ pos 0
    at x y z (pos n) is = is
    at x y z (negsuc n) is = absurd (omega (arith, ints, is))

module _ (a b c : Plane) where
  found_test : (met : Option Point) → IfSome met (λ p. p ≡ with_positive_weight (meet a b c)) → IfSome met (λ p. MeetOnlyIn a b c p) → IfNone met ((p : Point) → MeetOnlyIn a b c p → ⊥) →
      is_some met ≡ meet_in_point (Some a) (Some b) (Some c)
  found_test (Some p) value only none = sym (weight_test (meet a b c).w (λ no_weight.
      let e = ap (λ (q : Point). q.w) value ∙ positive_none (meet a b c) no_weight in
      let weight = only.weight in
      omega (arith, linear, e, weight)))
  found_test None value only none =
      by_zero (meet a b c).w (λ no_weight. sym (ap (λ (w : ℤ). not (eqb (unsigned_abs w) 0)) no_weight)) (λ some.
      absurd (none (with_positive_weight (meet a b c)) (turned_is_only a b c (turned_positive (meet a b c) (λ e. some (positive_back (meet a b c) e))))))

pub corner_found :
    (planes : List Plane) (bound : ℕ) (corner : List ℤ) (own before next : Plane) (met : Option Point) (found : Bool) →
    FitsSigned w64 (get_or corner 0 (pos 0)) → FitsSigned w64 (get_or corner 1 (pos 0)) → FitsSigned w64 (get_or corner 2 (pos 0)) →
    Some own ≡ named_plane planes bound (to_z w64 (of_z w64 (get_or corner 0 (pos 0)))) →
    Some before ≡ named_plane planes bound (to_z w64 (of_z w64 (get_or corner 1 (pos 0)))) →
    Some next ≡ named_plane planes bound (to_z w64 (of_z w64 (get_or corner 2 (pos 0)))) →
    found ≡ is_some met → IfSome met (λ p. p ≡ with_positive_weight (meet own before next)) → IfSome met (λ p. MeetOnlyIn own before next p) → IfNone met ((p : Point) → MeetOnlyIn own before next p → ⊥) →
    found ≡ is_face_corner planes bound corner
unfolding is_face_corner
corner_found planes bound corner own before next met found fits_own fits_before fits_next own_is before_is next_is is value only none =
    let first : Some own ≡ named_plane planes bound (get_or corner 0 (pos 0)) = own_is ∙ ap (named_plane planes bound) (to_z-of_z w64 (get_or corner 0 (pos 0)) fits_own) in
    let second : Some before ≡ named_plane planes bound (get_or corner 1 (pos 0)) = before_is ∙ ap (named_plane planes bound) (to_z-of_z w64 (get_or corner 1 (pos 0)) fits_before) in
    let third : Some next ≡ named_plane planes bound (get_or corner 2 (pos 0)) = next_is ∙ ap (named_plane planes bound) (to_z-of_z w64 (get_or corner 2 (pos 0)) fits_next) in
    is ∙ found_test own before next met value only none ∙ (λ i. meet_in_point (first i) (second i) (third i))
