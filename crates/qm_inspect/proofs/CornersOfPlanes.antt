-- The coordinates of a corner are those of the point that is found for its planes, and none where no point is found.
use Rattle.std.proofs.Common.{◌≡◌, ℕ, ℤ, pos, Bool, true, false, not, cond, eqb, List, [], get_or, Option, Some, None, refl, sym, ap, subst, ◌∙◌, arith, w64, to_z, of_z}
use Rattle.std.specs.Prelude.{FitsSigned, MatchOption, unsigned_abs, IfSome, IfNone}
use Rattle.std.proofs.lemmas.Int.{to_z-of_z}
use Rattle.qm_numbers.proofs.IntegerProducts.{linear}
use Rattle.qm_numbers.proofs.Signs.{by_zero}
use Rattle.qm_space.specs.Point.{Point}
use Rattle.qm_space.specs.Plane.{Plane}
use Rattle.qm_space.specs.Meet.{meet}
use Rattle.qm_geom.specs.Corners.{with_positive_weight, MeetOnlyIn}
use Rattle.qm_geom.proofs.OnlyMeetings.{turned_positive, turned_is_only}
use Rattle.qm_listing.specs.declared.listing.Coordinate.{Coordinate}
use Rattle.qm_listing.specs.WorldListing.{coordinates_at}
use Rattle.qm_face_layout.specs.PlaneNumbers.{named_plane}
use Rattle.qm_face_layout.proofs.ValidFaces.{weight_test}
use Rattle.qm_face_file.proofs.CornerTests.{positive_none, positive_back}
use Rattle.qm_answers.specs.CornerText.{coordinates_of_meeting, coordinates_of_planes, coordinates_of_corner}

-- these are the coordinates of the point that is found, or none
abbrev AreCoordinatesOf : List Coordinate → Option Point → Type 0
AreCoordinatesOf coordinates met = MatchOption met (coordinates ≡ []) (λ p. coordinates ≡ coordinates_at p)

not_zero : (test : Bool) → not test ≡ true → test ≡ false
not_zero true is = absurd cc
not_zero false is = refl

module _ (a b c : Plane) where
  meeting_found : (met : Option Point) → IfSome met (λ p. p ≡ with_positive_weight (meet a b c)) → IfSome met (λ p. MeetOnlyIn a b c p) → IfNone met ((p : Point) → MeetOnlyIn a b c p → ⊥) →
      AreCoordinatesOf (coordinates_of_meeting (meet a b c)) met
  unfolding with_positive_weight
  meeting_found (Some p) value only none =
      let some = weight_test (meet a b c).w (λ no_weight.
      let e = ap (λ (q : Point). q.w) value ∙ positive_none (meet a b c) no_weight in
      let weight = only.weight in
      omega (arith, linear, e, weight)) in
      ap (λ (test : Bool). cond test [] (coordinates_at (with_positive_weight (meet a b c)))) (not_zero (eqb (unsigned_abs (meet a b c).w) 0) some)
      ∙ ap coordinates_at (sym value)
  meeting_found None value only none =
      by_zero (meet a b c).w (λ no_weight. ap (λ (w : ℤ). cond (eqb (unsigned_abs w) 0) [] (coordinates_at (with_positive_weight (meet a b c)))) no_weight) (λ some.
      absurd (none (with_positive_weight (meet a b c)) (turned_is_only a b c (turned_positive (meet a b c) (λ e. some (positive_back (meet a b c) e))))))

module _ (planes : List Plane) (bound : ℕ) (corner : List ℤ) where
  -- the number at a place of the corner names a plane, or none
  module _ (place : ℕ) (named : Option Plane) (fits : FitsSigned w64 (get_or corner place (pos 0))) (is : named ≡ named_plane planes bound (to_z w64 (of_z w64 (get_or corner place (pos 0))))) where
    named_at : named ≡ named_plane planes bound (get_or corner place (pos 0))
    named_at = is ∙ ap (named_plane planes bound) (to_z-of_z w64 (get_or corner place (pos 0)) fits)

  abbrev named_by : ℕ → Option Plane
  named_by place = named_plane planes bound (get_or corner place (pos 0))

  pub no_own : FitsSigned w64 (get_or corner 0 (pos 0)) → None ≡ named_plane planes bound (to_z w64 (of_z w64 (get_or corner 0 (pos 0)))) → coordinates_of_corner planes bound corner ≡ []
  unfolding coordinates_of_corner
  no_own fits is = ap (λ (o : Option Plane). coordinates_of_planes o (named_by 1) (named_by 2)) (sym (named_at 0 None fits is))

  module _ (own : Plane) (fits_own : FitsSigned w64 (get_or corner 0 (pos 0))) (own_is : Some own ≡ named_plane planes bound (to_z w64 (of_z w64 (get_or corner 0 (pos 0))))) where
    pub no_before : FitsSigned w64 (get_or corner 1 (pos 0)) → None ≡ named_plane planes bound (to_z w64 (of_z w64 (get_or corner 1 (pos 0)))) → coordinates_of_corner planes bound corner ≡ []
    unfolding coordinates_of_corner
    no_before fits is =
        ap (λ (o : Option Plane). coordinates_of_planes o (named_by 1) (named_by 2)) (sym (named_at 0 (Some own) fits_own own_is))
        ∙ ap (λ (o : Option Plane). coordinates_of_planes (Some own) o (named_by 2)) (sym (named_at 1 None fits is))

    module _ (before : Plane) (fits_before : FitsSigned w64 (get_or corner 1 (pos 0))) (before_is : Some before ≡ named_plane planes bound (to_z w64 (of_z w64 (get_or corner 1 (pos 0))))) where
      both_are : (third : Option Plane) (fits : FitsSigned w64 (get_or corner 2 (pos 0))) → third ≡ named_plane planes bound (to_z w64 (of_z w64 (get_or corner 2 (pos 0)))) → coordinates_of_corner planes bound corner ≡ coordinates_of_planes (Some own) (Some before) third
      unfolding coordinates_of_corner
      both_are third fits is =
          ap (λ (o : Option Plane). coordinates_of_planes o (named_by 1) (named_by 2)) (sym (named_at 0 (Some own) fits_own own_is))
          ∙ ap (λ (o : Option Plane). coordinates_of_planes (Some own) o (named_by 2)) (sym (named_at 1 (Some before) fits_before before_is))
          ∙ ap (λ (o : Option Plane). coordinates_of_planes (Some own) (Some before) o) (sym (named_at 2 third fits is))

      pub no_next : FitsSigned w64 (get_or corner 2 (pos 0)) → None ≡ named_plane planes bound (to_z w64 (of_z w64 (get_or corner 2 (pos 0)))) → coordinates_of_corner planes bound corner ≡ []
      no_next fits is = both_are None fits is

      pub corner_met : (next : Plane) (met : Option Point) → FitsSigned w64 (get_or corner 2 (pos 0)) → Some next ≡ named_plane planes bound (to_z w64 (of_z w64 (get_or corner 2 (pos 0)))) →
          IfSome met (λ p. p ≡ with_positive_weight (meet own before next)) → IfSome met (λ p. MeetOnlyIn own before next p) → IfNone met ((p : Point) → MeetOnlyIn own before next p → ⊥) →
          AreCoordinatesOf (coordinates_of_corner planes bound corner) met
      corner_met next met fits is value only none =
          subst (λ (coordinates : List Coordinate). AreCoordinatesOf coordinates met) (sym (both_are (Some next) fits is)) (meeting_found own before next met value only none)
