-- When three planes meet in one place only, and which.
use Rattle.std.proofs.Common.{◌≡◌, ℤ, pos, negsuc, true, false, ◌+ℤ◌, ◌*ℤ◌, ◌<ℤ◌, ◌≤ℤ◌, ap, refl, sym, subst, arith}
use Rattle.std.proofs.lemmas.Int.{ints}
use Rattle.qm_space.specs.Point.{Point, point_sum, point_times}
use Rattle.qm_space.specs.Plane.{Plane, IsOn}
use Rattle.qm_space.specs.Meet.{meet}
use Rattle.qm_numbers.proofs.IntegerProducts.{linear, *ℤ-+ℤ}
use Rattle.qm_numbers.proofs.Signs.{by_sign, zero_beside_positive}
use Rattle.qm_space.proofs.Planes.{first_holds_meet, second_holds_meet, third_holds_meet, meet_only, meet_exchanged}
use Rattle.qm_space.proofs.Directions.{common_direction, another_point}
use Rattle.qm_numbers.specs.Sign.{is_negative}
use Rattle.qm_geom.specs.Corners.{with_positive_weight, MeetBeside, MeetOnlyIn}

-- where w is above 0, the meeting point is the only one
meet_is_only : (a b c : Plane) → pos 0 <ℤ (meet a b c).w → MeetOnlyIn a b c (meet a b c)
meet_is_only a b c h = record {
  weight = h;
  first = first_holds_meet a b c;
  second = second_holds_meet a b c;
  third = third_holds_meet a b c;
  only = λ q w x y z. meet_only a b c q x y z;
}

-- where w is 0, the planes have another place in common beside each that they have
meet_beside : (a b c : Plane) → (meet a b c).w ≡ pos 0 → (p : Point) → pos 0 <ℤ p.w → IsOn a p → IsOn b p → IsOn c p → MeetBeside a b c p
meet_beside a b c e p h x y z =
    let d = common_direction a b c e in
    let v = d.0 in let l = d.1 in
    let o = another_point a b c p v l x y z in
    record {
      other = point_sum p v;
      weight = subst (λ (k : ℤ). pos 0 <ℤ k) (sym o.3) h;
      first = o.0;
      second = o.1;
      third = o.2;
      apart = λ same. l.some (still p.x v.x p.w v.w l.weight h (ap (λ q. q.x) same)) (still p.y v.y p.w v.w l.weight h (ap (λ q. q.y) same)) (still p.z v.z p.w v.w l.weight h (ap (λ q. q.z) same));
    }
  where
    still : (k s w t : ℤ) → t ≡ pos 0 → pos 0 <ℤ w → w *ℤ (k +ℤ s) ≡ (w +ℤ t) *ℤ k → s ≡ pos 0
    still k s w t z h e =
        let f : (w +ℤ t) *ℤ k ≡ w *ℤ k = ap (λ x. x *ℤ k) (omega (arith, linear)) in
        let g = *ℤ-+ℤ w k s in
        zero_beside_positive w s h (omega (arith, linear))

beside_exchanged : (a b c : Plane) (p : Point) → MeetBeside b a c p → MeetBeside a b c p
beside_exchanged a b c p m =
    record { other = m.other; weight = m.weight; first = m.second; second = m.first; third = m.third; apart = m.apart }

-- so it is not the only one
beside_not_only : (a b c : Plane) (p : Point) → MeetBeside a b c p → MeetOnlyIn a b c p → ⊥
beside_not_only a b c p m o = m.apart (o.only m.other m.weight m.first m.second m.third)

-- the order in which the planes are named does not matter
only_exchanged : (a b c : Plane) (p : Point) → MeetOnlyIn b a c p → MeetOnlyIn a b c p
only_exchanged a b c p m =
    record { weight = m.weight; first = m.second; second = m.first; third = m.third; only = λ q w x y z. m.only q w y x z }

turned_is : (a b c : Plane) → is_negative (meet a b c).w ≡ true → with_positive_weight (meet a b c) ≡ meet b a c
unfolding with_positive_weight
turned_is a b c e = rw e (sym (meet_exchanged a b c))

kept_is : (a b c : Plane) → is_negative (meet a b c).w ≡ false → with_positive_weight (meet a b c) ≡ meet a b c
unfolding with_positive_weight
kept_is a b c e = rw e refl

by_negative : {P : Type 0} (z : ℤ) → (is_negative z ≡ true → P) → (is_negative z ≡ false → P) → P
by_negative (pos n) f g = g refl
by_negative (negsuc n) f g = f refl

-- the turned meeting point is one of the two
by_turned : (P : Point → Type 0) (a b c : Plane) → P (meet b a c) → P (meet a b c) → P (with_positive_weight (meet a b c))
by_turned P a b c f g =
    by_negative (meet a b c).w (λ e. subst P (sym (turned_is a b c e)) f) (λ e. subst P (sym (kept_is a b c e)) g)

pub turned_kept : (p : Point) → pos 0 ≤ℤ p.w → with_positive_weight p ≡ p
unfolding with_positive_weight
turned_kept p h = by_negative p.w (λ e. absurd (no_negative p.w h e)) (λ e. rw e refl)
  where
    no_negative : (z : ℤ) → pos 0 ≤ℤ z → is_negative z ≡ true → ⊥
    no_negative (pos n) h e = cc
    no_negative (negsuc n) h e = omega (arith, ints)

pub turned_times : (p : Point) → p.w <ℤ pos 0 → with_positive_weight p ≡ point_times (negsuc 0) p
unfolding with_positive_weight
turned_times p h = by_negative p.w (λ e. rw e refl) (λ e. absurd (some_negative p.w h e))
  where
    some_negative : (z : ℤ) → z <ℤ pos 0 → is_negative z ≡ false → ⊥
    some_negative (pos n) h e = omega (arith, ints)
    some_negative (negsuc n) h e = cc

not_negative : (p : Point) → pos 0 ≤ℤ (with_positive_weight p).w
unfolding with_positive_weight
not_negative p = at p.x p.y p.z p.w
  where
    at : (x y z w : ℤ) → pos 0 ≤ℤ (with_positive_weight (record { x = x; y = y; z = z; w = w })).w
    at x y z (pos n) = omega (arith, ints)
    at x y z (negsuc n) = omega (arith, ints)

pub turned_positive : (p : Point) → ((with_positive_weight p).w ≡ pos 0 → ⊥) → pos 0 <ℤ (with_positive_weight p).w
turned_positive p n = let k = not_negative p in by_sign (with_positive_weight p).w (λ h. absurd (omega (arith, linear))) (λ e. absurd (n e)) (λ h. h)

pub turned_is_only : (a b c : Plane) → pos 0 <ℤ (with_positive_weight (meet a b c)).w → MeetOnlyIn a b c (with_positive_weight (meet a b c))
turned_is_only a b c =
    by_turned (λ p. pos 0 <ℤ p.w → MeetOnlyIn a b c p) a b c (λ h. only_exchanged a b c (meet b a c) (meet_is_only b a c h)) (meet_is_only a b c)

pub turned_beside : (a b c : Plane) → (with_positive_weight (meet a b c)).w ≡ pos 0 → (p : Point) → pos 0 <ℤ p.w → IsOn a p → IsOn b p → IsOn c p → MeetBeside a b c p
turned_beside a b c =
    by_turned (λ q. q.w ≡ pos 0 → (p : Point) → pos 0 <ℤ p.w → IsOn a p → IsOn b p → IsOn c p → MeetBeside a b c p) a b c (λ e p h x y z. beside_exchanged a b c p (meet_beside b a c e p h y x z)) (meet_beside a b c)

pub turned_no_only : (a b c : Plane) → (with_positive_weight (meet a b c)).w ≡ pos 0 → (p : Point) → MeetOnlyIn a b c p → ⊥
turned_no_only a b c e p m = beside_not_only a b c p (turned_beside a b c e p m.weight m.first m.second m.third) m
