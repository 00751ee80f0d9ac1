-- Planes that have the same points, and those of them that have the same points on each side.
use Rattle.std.proofs.Common.{◌≡◌, ◌⊎◌, inl, inr, ℕ, Bool, true, false, not, ℤ, pos, negsuc, neg_ℤ, ◌+ℤ◌, ◌*ℤ◌, List, Some, ◌↔◌, refl, ap, sym, ◌∙◌, subst, arith}
use Rattle.std.specs.Prelude.{slice_get, IsTrue}
use Rattle.qm_space.specs.Point.{Point}
use Rattle.qm_space.specs.Plane.{Plane, value, IsOn, flipped, scaled}
use Rattle.qm_space.specs.Reduced.{leads_positive, IsReduced}
use Rattle.qm_space.specs.Turned.{turned}
use Rattle.qm_space.specs.Multiple.{HasSameSides}
use Rattle.qm_space.specs.Book.{AreBookPlanes}
use Rattle.std.proofs.Math.IntN.{*ℤ_comm}
use Rattle.qm_numbers.proofs.IntegerProducts.{linear, *ℤ-neg, *ℤ_zero, zero_*ℤ, one_*ℤ, +ℤ-*ℤ}
use Rattle.qm_numbers.proofs.Signs.{zero_beside, zero_beside_positive, by_sign}
use Rattle.qm_space.proofs.Planes.{value_scaled}
use Rattle.qm_space.proofs.ReducedPlanes.{same_plane, flipped_is_scaled, scaled_scaled, flipped_twice, leads_flipped, multiples_equal, scaled_neg, scaled_flipped}
use Rattle.qm_space.proofs.TurnedPlanes.{turned_is_reduced}
use Rattle.qm_space.proofs.Proportional.{by_proportional}
use Rattle.qm_solids.specs.Solid.{Solid}
use Rattle.qm_solids.specs.Candidates.{IsSamePlane, IsOnFace}

-- ---- on one another

not_zero : (a b : ℤ) → (a ≡ pos 0 → ⊥) → (b ≡ pos 0 → ⊥) → a *ℤ b ≡ pos 0 → ⊥
not_zero a b some_a some_b e = some_b (zero_beside a b some_a e)

pub lies_on_itself : (h : Plane) → IsSamePlane h h
lies_on_itself h = record { times = pos 1; factor = pos 1; some_times = λ e. cc; some_factor = λ e. cc; multiple = refl }

pub lies_on_back : (a h : Plane) → IsSamePlane a h → IsSamePlane h a
lies_on_back a h l = record { times = l.factor; factor = l.times; some_times = l.some_factor; some_factor = l.some_times; multiple = sym l.multiple }

pub lies_on_through : (a b c : Plane) → IsSamePlane a b → IsSamePlane b c → IsSamePlane a c
lies_on_through a b c l m = record {
  times = m.times *ℤ l.times;
  factor = l.factor *ℤ m.factor;
  some_times = not_zero m.times l.times m.some_times l.some_times;
  some_factor = not_zero l.factor m.factor l.some_factor m.some_factor;
  multiple =
      sym (scaled_scaled m.times l.times a) ∙ ap (λ (p : Plane). scaled m.times p) l.multiple ∙ scaled_scaled m.times l.factor b
      ∙ ap (λ k. scaled k b) (*ℤ_comm m.times l.factor) ∙ sym (scaled_scaled l.factor m.times b)
      ∙ ap (λ (p : Plane). scaled l.factor p) m.multiple ∙ scaled_scaled l.factor m.factor c;
}

pub one_scaled : (h : Plane) → scaled (pos 1) h ≡ h
one_scaled h = same_plane (scaled (pos 1) h) h (one_*ℤ h.nx) (one_*ℤ h.ny) (one_*ℤ h.nz) (one_*ℤ h.d)

pub turned_lies_on : (side : Bool) (h : Plane) → IsSamePlane (turned side h) h
turned_lies_on true h = lies_on_itself h
turned_lies_on false h =
    record { times = pos 1; factor = negsuc 0; some_times = λ e. cc; some_factor = λ e. cc; multiple = one_scaled (flipped h) ∙ flipped_is_scaled h }

-- planes that are turned to any sides lie on one another where the planes do
pub lies_on_from_turned : (s t : Bool) (a h : Plane) → IsSamePlane (turned s a) (turned t h) → IsSamePlane a h
lies_on_from_turned s t a h l =
    lies_on_through a (turned s a) h (lies_on_back (turned s a) a (turned_lies_on s a))
    (lies_on_through (turned s a) (turned t h) h l (turned_lies_on t h))

pub lies_on_turned : (s t : Bool) (a h : Plane) → IsSamePlane a h → IsSamePlane (turned s a) (turned t h)
lies_on_turned s t a h l =
    lies_on_through (turned s a) a (turned t h) (turned_lies_on s a)
    (lies_on_through a h (turned t h) l (lies_on_back (turned t h) h (turned_lies_on t h)))

-- they have the same points
holds_points : (a h : Plane) (x : Point) → IsSamePlane a h → IsOn a x → IsOn h x
holds_points a h x l on =
    let e = ap (λ (p : Plane). value p x) l.multiple in
    let s = value_scaled l.times a x in
    let t = value_scaled l.factor h x in
    let z : l.times *ℤ value a x ≡ pos 0 = ap (λ v. l.times *ℤ v) on ∙ *ℤ_zero l.times in
    zero_beside l.factor (value h x) l.some_factor (omega (arith, linear))

pub lies_on_points : (a h : Plane) (x : Point) → IsSamePlane a h → IsOn a x ↔ IsOn h x
lies_on_points a h x l = (holds_points a h x l, holds_points h a x (lies_on_back a h l))

-- the one plane lies on the other, or the other holds four numbers that the one does not hold
pub by_lies_on : {P : Type 0} (a h : Plane) (p q : Point) → (IsOn a p → ⊥) → (IsOn h q → ⊥) → (IsSamePlane a h → P) → ((v : Point) → IsOn h v → (IsOn a v → ⊥) → P) → P
by_lies_on a h p q off_a off_h same apart = by_proportional a h
    (λ m.
    let e = m q in
    same (record { times = value h q; factor = value a q; some_times = off_h; some_factor = λ z. off_a (there z (ap (λ (g : Plane). value g p) e)); multiple = e }))
    apart
  where
    there : value a q ≡ pos 0 → value (scaled (value h q) a) p ≡ value (scaled (value a q) h) p → IsOn a p
    there z e =
        let s = value_scaled (value h q) a p in
        let t = value_scaled (value a q) h p in
        let none : value a q *ℤ value h p ≡ pos 0 = ap (λ v. v *ℤ value h p) z ∙ zero_*ℤ (value h p) in
        zero_beside (value h q) (value a p) off_h (omega (arith, linear))

-- the points on a face are those on any plane that it lies on
pub same_face : (solid : Solid) (cell : List Plane) (a h : Plane) (x : Point) → IsSamePlane a h → IsOnFace solid cell a x → IsOnFace solid cell h x
same_face solid cell a h x l on_face = record {
  in_cube = on_face.in_cube;
  in_cell = on_face.in_cell;
  on = holds_points a h x l on_face.on;
  behind_others = λ other among apart. on_face.behind_others other among (λ m. apart (lies_on_through other a h m l));
}

-- ---- planes in lowest terms

-- there is a side to which the plane leads with a positive component
leading_side : (h : Plane) → IsReduced h → (side : Bool) × IsTrue (leads_positive (turned side h))
leading_side h r = by_lead (leads_positive h) refl
  where
    by_lead : (lead : Bool) → leads_positive h ≡ lead → (side : Bool) × IsTrue (leads_positive (turned side h))
    by_lead true e = (true, e)
    by_lead false e = (false, leads_flipped h r.normal ∙ ap not e)

same_leading : (a h : Plane) → IsReduced a → IsReduced h → IsTrue (leads_positive a) → IsTrue (leads_positive h) → IsSamePlane a h → a ≡ h
same_leading a h r s leads_a leads_h l =
    (multiples_equal l.times l.factor a h l.some_times l.some_factor l.multiple r.lowest s.lowest leads_a leads_h).0

turned_back : (s t : Bool) (a h : Plane) → turned s a ≡ turned t h → (a ≡ h) ⊎ (a ≡ flipped h)
turned_back true true a h e = inl e
turned_back true false a h e = inr e
turned_back false true a h e = inr (sym (flipped_twice a) ∙ ap (λ (p : Plane). flipped p) e)
turned_back false false a h e = inl (sym (flipped_twice a) ∙ ap (λ (p : Plane). flipped p) e ∙ flipped_twice h)

-- planes in lowest terms that lie on one another are equal, or the one is the other flipped
pub reduced_lies_on : (a h : Plane) → IsReduced a → IsReduced h → IsSamePlane a h → (a ≡ h) ⊎ (a ≡ flipped h)
reduced_lies_on a h r s l =
    let i = leading_side a r in
    let j = leading_side h s in
    turned_back i.0 j.0 a h (same_leading (turned i.0 a) (turned j.0 h) (turned_is_reduced i.0 a r) (turned_is_reduced j.0 h s) i.1 j.1 (lies_on_turned i.0 j.0 a h l))

-- planes of a book that lie on one another have one number
pub one_number : (book : List Plane) (m n : ℕ) (a h : Plane) → AreBookPlanes book → slice_get book m ≡ Some a → slice_get book n ≡ Some h → IsSamePlane a h → m ≡ n
one_number book m n a h are at_m at_n l =
    let same = same_leading a h (are.reduced m a at_m) (are.reduced n h at_n) (are.leads m a at_m) (are.leads n h at_n) l in
    are.distinct m n h (subst (λ (p : Plane). slice_get book m ≡ Some p) same at_m) at_n

-- ---- the same sides

pub same_sides_lies_on : (a h : Plane) → HasSameSides a h → IsSamePlane a h
same_sides_lies_on a h same = record {
  times = same.times;
  factor = same.factor;
  some_times = λ z. let p = same.some_times in absurd (omega (arith, linear));
  some_factor = λ z. let p = same.some_factor in absurd (omega (arith, linear));
  multiple = same.multiple;
}

-- planes in lowest terms that have the same sides are equal
pub reduced_same_sides : (a h : Plane) → IsReduced a → IsReduced h → HasSameSides a h → a ≡ h
reduced_same_sides a h r s same = by_side (reduced_lies_on a h r s (same_sides_lies_on a h same))
  where
    part : (u v : ℤ) → same.times *ℤ u ≡ same.factor *ℤ v → u ≡ neg_ℤ v → v ≡ pos 0
    part u v e f =
        let t = ap (λ w. same.times *ℤ w) f in
        let n = *ℤ-neg same.times v in
        let d = +ℤ-*ℤ same.times same.factor v in
        zero_beside_positive (same.times +ℤ same.factor) v (let p = same.some_times in let q = same.some_factor in omega (arith, linear)) (omega (arith, linear))

    by_side : (a ≡ h) ⊎ (a ≡ flipped h) → a ≡ h
    by_side (inl e) = e
    by_side (inr e) =
        let m = same.multiple in
        absurd (s.normal (part a.nx h.nx (ap (λ (p : Plane). p.nx) m) (ap (λ (p : Plane). p.nx) e)) (part a.ny h.ny (ap (λ (p : Plane). p.ny) m) (ap (λ (p : Plane). p.ny) e)) (part a.nz h.nz (ap (λ (p : Plane). p.nz) m) (ap (λ (p : Plane). p.nz) e)))

-- a plane on which another lies has the other's sides, or the opposite ones
pub by_sides : {P : Type 0} (a h : Plane) → IsSamePlane a h → (HasSameSides a h → P) → (HasSameSides a (flipped h) → P) → P
by_sides a h l same opposite = by_sign l.times
    (λ low. by_sign l.factor
    (λ under. same (record { times = neg_ℤ l.times; factor = neg_ℤ l.factor; some_times = omega (arith, linear); some_factor = omega (arith, linear); multiple = turned_times ∙ sym (scaled_neg l.factor h) }))
    (λ zero. absurd (l.some_factor zero))
    (λ over. opposite (record { times = neg_ℤ l.times; factor = l.factor; some_times = omega (arith, linear); some_factor = over; multiple = turned_times ∙ sym (scaled_flipped l.factor h) })))
    (λ zero. absurd (l.some_times zero))
    (λ high. by_sign l.factor
    (λ under. opposite (record { times = l.times; factor = neg_ℤ l.factor; some_times = high; some_factor = omega (arith, linear); multiple = l.multiple ∙ turned_factor }))
    (λ zero. absurd (l.some_factor zero))
    (λ over. same (record { times = l.times; factor = l.factor; some_times = high; some_factor = over; multiple = l.multiple })))
  where
    turned_times : scaled (neg_ℤ l.times) a ≡ flipped (scaled l.factor h)
    turned_times = scaled_neg l.times a ∙ ap (λ (p : Plane). flipped p) l.multiple

    turned_factor : scaled l.factor h ≡ scaled (neg_ℤ l.factor) (flipped h)
    turned_factor = sym (flipped_twice (scaled l.factor h)) ∙ ap (λ (p : Plane). flipped p) (sym (scaled_neg l.factor h)) ∙ sym (scaled_flipped (neg_ℤ l.factor) h)
