-- Multiples of planes, the sign with which a plane leads, and planes in lowest terms.
use Rattle.std.proofs.Common.{◌≡◌, ℕ, suc, zero, ◌*◌, ◌≤◌, ◌<◌, Bool, true, false, not, IsTrue, ℤ, pos, negsuc, ◌+ℤ◌, ◌*ℤ◌, neg_ℤ, ◌<ℤ◌, [], ◌∷◌, ap, sym, subst, refl, ◌∙◌, arith, unsigned_abs, int_div, true≢false, eq-zero-or-pos, ◌⊎◌, inl, inr, ⊎_elim, mul-one}
use Rattle.std.specs.Int.{◌∣◌}
use Rattle.std.proofs.lemmas.Int.{ints}
use Rattle.std.proofs.lemmas.Nat.Gcd.{dvd_trans}
use Rattle.std.proofs.Math.Nat.{eq-zero_of_zero-dvd, eq-one_of_dvd-one, mul-dvd-mul_left, dvd_of_mul-dvd-mul_left}
use Rattle.std.proofs.Math.IntN.{*ℤ_comm}
use Rattle.qm_numbers.specs.Gcd.{gcd}
use Rattle.qm_space.specs.Bounds.{distance_bound}
use Rattle.qm_space.specs.Plane.{Plane, flipped, scaled}
use Rattle.qm_space.specs.Reduced.{sign_decides, leads_positive, HasNormal, HasSmallNormal, IsReduced}
use Rattle.qm_space.specs.ThreePoints.{factor_of, common_factor, reduced}
use Rattle.qm_numbers.proofs.IntegerProducts.{linear, *ℤ_assoc, *ℤ_zero, *ℤ_one, neg-*ℤ, *ℤ-neg}
use Rattle.qm_numbers.proofs.Signs.{abs_neg, by_sign, product_positive, positive_times_negative, negative_times_positive, negative_times_negative, abs_zero, cancel_equal, times_at_most, positive_beside}
use Rattle.qm_numbers.proofs.Divisors.{divisor_of_four, exact_division, abs_exact_division, lowest_combination}
use Rattle.qm_numbers.proofs.Ring.{variable, ◌⊕◌, ◌⊗◌, solved}

-- ---- planes are equal where their four numbers are

pub same_plane : (g h : Plane) → g.nx ≡ h.nx → g.ny ≡ h.ny → g.nz ≡ h.nz → g.d ≡ h.d → g ≡ h
same_plane g h x y z d = λ i. record { nx = x i; ny = y i; nz = z i; d = d i }

pub flipped_is_scaled : (h : Plane) → flipped h ≡ scaled (negsuc 0) h
flipped_is_scaled h = same_plane (flipped h) (scaled (negsuc 0) h) (omega (arith, ints)) (omega (arith, ints)) (omega (arith, ints)) (omega (arith, ints))

pub scaled_scaled : (j k : ℤ) (h : Plane) → scaled j (scaled k h) ≡ scaled (j *ℤ k) h
scaled_scaled j k h = same_plane (scaled j (scaled k h)) (scaled (j *ℤ k) h) (sym (*ℤ_assoc j k h.nx)) (sym (*ℤ_assoc j k h.ny)) (sym (*ℤ_assoc j k h.nz)) (sym (*ℤ_assoc j k h.d))

pub scaled_neg : (k : ℤ) (h : Plane) → scaled (neg_ℤ k) h ≡ flipped (scaled k h)
scaled_neg k h = same_plane (scaled (neg_ℤ k) h) (flipped (scaled k h)) (neg-*ℤ k h.nx) (neg-*ℤ k h.ny) (neg-*ℤ k h.nz) (neg-*ℤ k h.d)

pub scaled_flipped : (k : ℤ) (h : Plane) → scaled k (flipped h) ≡ flipped (scaled k h)
scaled_flipped k h = same_plane (scaled k (flipped h)) (flipped (scaled k h)) (*ℤ-neg k h.nx) (*ℤ-neg k h.ny) (*ℤ-neg k h.nz) (*ℤ-neg k h.d)

pub flipped_twice : (h : Plane) → flipped (flipped h) ≡ h
flipped_twice h = same_plane (flipped (flipped h)) h (omega (arith, linear)) (omega (arith, linear)) (omega (arith, linear)) (omega (arith, linear))

pub flipped_has_normal : (h : Plane) → HasNormal h → HasNormal (flipped h)
flipped_has_normal h n = λ x y z. n (omega (arith, linear)) (omega (arith, linear)) (omega (arith, linear))

-- ---- the first number that is not 0

decides_zero : (z : ℤ) (rest : Bool) → z ≡ pos 0 → sign_decides z rest ≡ rest
decides_zero z rest e = ap (λ x. sign_decides x rest) e

decides_positive : (z : ℤ) (rest : Bool) → pos 0 <ℤ z → sign_decides z rest ≡ true
decides_positive (pos zero) rest h = absurd (omega (arith, ints))
decides_positive (pos (suc n)) rest h = refl
decides_positive (negsuc n) rest h = absurd (omega (arith, ints))

decides_negative : (z : ℤ) (rest : Bool) → z <ℤ pos 0 → sign_decides z rest ≡ false
decides_negative (pos zero) rest h = absurd (omega (arith, ints))
decides_negative (pos (suc n)) rest h = absurd (omega (arith, ints))
decides_negative (negsuc n) rest h = refl

times_zero : (k z : ℤ) → z ≡ pos 0 → k *ℤ z ≡ pos 0
times_zero k z e = ap (λ x. k *ℤ x) e ∙ *ℤ_zero k

decides_scaled : (k z : ℤ) (rest : Bool) → pos 0 <ℤ k → sign_decides (k *ℤ z) rest ≡ sign_decides z rest
decides_scaled k z rest p = by_sign z
    (λ h. decides_negative (k *ℤ z) rest (positive_times_negative k z p h) ∙ sym (decides_negative z rest h))
    (λ h. decides_zero (k *ℤ z) rest (times_zero k z h) ∙ sym (decides_zero z rest h))
    (λ h. decides_positive (k *ℤ z) rest (product_positive k z p h) ∙ sym (decides_positive z rest h))

decides_turned : (k z : ℤ) (rest turned : Bool) → k <ℤ pos 0 → (z ≡ pos 0 → turned ≡ not rest) → sign_decides (k *ℤ z) turned ≡ not (sign_decides z rest)
decides_turned k z rest turned p r = by_sign z
    (λ h. decides_positive (k *ℤ z) turned (negative_times_negative k z p h) ∙ sym (ap not (decides_negative z rest h)))
    (λ h. decides_zero (k *ℤ z) turned (times_zero k z h) ∙ r h ∙ sym (ap not (decides_zero z rest h)))
    (λ h. decides_negative (k *ℤ z) turned (negative_times_positive k z p h) ∙ sym (ap not (decides_positive z rest h)))

-- a positive multiple leads with the same sign
pub leads_scaled : (k : ℤ) (h : Plane) → pos 0 <ℤ k → leads_positive (scaled k h) ≡ leads_positive h
leads_scaled k h p =
    decides_scaled k h.nx (sign_decides (k *ℤ h.ny) (sign_decides (k *ℤ h.nz) false)) p
    ∙ ap (λ r. sign_decides h.nx r) (decides_scaled k h.ny (sign_decides (k *ℤ h.nz) false) p
    ∙ ap (λ r. sign_decides h.ny r) (decides_scaled k h.nz false p))

-- a negative multiple leads with the other sign
pub leads_turned : (k : ℤ) (h : Plane) → k <ℤ pos 0 → HasNormal h → leads_positive (scaled k h) ≡ not (leads_positive h)
leads_turned k h p n =
    decides_turned k h.nx (sign_decides h.ny (sign_decides h.nz false)) (sign_decides (k *ℤ h.ny) (sign_decides (k *ℤ h.nz) false)) p (λ x.
    decides_turned k h.ny (sign_decides h.nz false) (sign_decides (k *ℤ h.nz) false) p (λ y.
    decides_turned k h.nz false false p (λ z. absurd (n x y z))))

pub leads_flipped : (h : Plane) → HasNormal h → leads_positive (flipped h) ≡ not (leads_positive h)
leads_flipped h n = ap leads_positive (flipped_is_scaled h) ∙ leads_turned (negsuc 0) h (omega (arith, ints)) n

-- a plane that leads positive has a normal
pub leading_has_normal : (h : Plane) → IsTrue (leads_positive h) → HasNormal h
leading_has_normal h t = λ x y z. true≢false (sym t ∙ decides_zero h.nx (sign_decides h.ny (sign_decides h.nz false)) x ∙ decides_zero h.ny (sign_decides h.nz false) y ∙ decides_zero h.nz false z)

-- ---- divisors of a plane's four numbers

pub record Divides (k : ℕ) (h : Plane) : Type 0 where
  pub nx : k ∣ unsigned_abs h.nx
  pub ny : k ∣ unsigned_abs h.ny
  pub nz : k ∣ unsigned_abs h.nz
  pub d : k ∣ unsigned_abs h.d

pub common_factor_divides : (h : Plane) → Divides (common_factor h) h
unfolding common_factor
common_factor_divides h = let f = (factor_of h).1 in record { nx = f.first; ny = f.second; nz = f.third; d = f.fourth }

pub divides_common_factor : (k : ℕ) (h : Plane) → Divides k h → k ∣ common_factor h
unfolding common_factor
divides_common_factor k h c = (factor_of h).1.greatest k c.nx c.ny c.nz c.d

-- it is the one that code finds
pub common_factor_gcd : (h : Plane) → common_factor h ≡ gcd (gcd (gcd (unsigned_abs h.nx) (unsigned_abs h.ny)) (unsigned_abs h.nz)) (unsigned_abs h.d)
unfolding common_factor factor_of divisor_of_four
common_factor_gcd h = refl

pub common_factor_positive : (h : Plane) → HasNormal h → 0 < common_factor h
common_factor_positive h n = ⊎_elim (λ e. absurd (none e)) (λ p. p) (eq-zero-or-pos (common_factor h))
  where
    gone : common_factor h ≡ 0 → (z : ℤ) → common_factor h ∣ unsigned_abs z → z ≡ pos 0
    gone e z c = abs_zero z (eq-zero_of_zero-dvd (subst (λ (k : ℕ). k ∣ unsigned_abs z) e c))

    none : common_factor h ≡ 0 → ⊥
    none e = let c = common_factor_divides h in n (gone e h.nx c.nx) (gone e h.ny c.ny) (gone e h.nz c.nz)

-- ---- lowest terms

-- a plane is the multiple by its common factor of itself in lowest terms
pub reduced_back : (h : Plane) → scaled (pos (common_factor h)) (reduced h) ≡ h
unfolding reduced
reduced_back h =
    let c = common_factor_divides h in let k = common_factor h in
    same_plane (scaled (pos k) (reduced h)) h (exact_division h.nx k c.nx) (exact_division h.ny k c.ny) (exact_division h.nz k c.nz) (exact_division h.d k c.d)

pub reduced_leads : (h : Plane) → HasNormal h → leads_positive (reduced h) ≡ leads_positive h
reduced_leads h n =
    let p = common_factor_positive h n in
    sym (leads_scaled (pos (common_factor h)) (reduced h) (omega (arith, ints))) ∙ ap leads_positive (reduced_back h)

pub reduced_has_normal : (h : Plane) → HasNormal h → HasNormal (reduced h)
unfolding reduced
reduced_has_normal h n =
    let c = common_factor_divides h in let k = common_factor h in
    λ x y z. n (sym (exact_division h.nx k c.nx) ∙ times_zero (pos k) (int_div h.nx (pos k)) x)
    (sym (exact_division h.ny k c.ny) ∙ times_zero (pos k) (int_div h.ny (pos k)) y)
    (sym (exact_division h.nz k c.nz) ∙ times_zero (pos k) (int_div h.nz (pos k)) z)

-- no number but 1 divides all four
pub reduced_lowest : (h : Plane) → HasNormal h → (k : ℕ) → Divides k (reduced h) → k ≡ 1
unfolding reduced
reduced_lowest h n k c = eq-one_of_dvd-one (dvd_of_mul-dvd-mul_left k (common_factor_positive h n) all)
  where
    part : (z : ℤ) → common_factor h ∣ unsigned_abs z → k ∣ unsigned_abs (int_div z (pos (common_factor h))) → common_factor h * k ∣ unsigned_abs z
    part z a b = subst (λ (m : ℕ). common_factor h * k ∣ m) (abs_exact_division z (common_factor h) a) (mul-dvd-mul_left k (common_factor h) b)

    all : common_factor h * k ∣ common_factor h * 1
    all =
        let a = common_factor_divides h in
        subst (λ (m : ℕ). common_factor h * k ∣ m) (sym (mul-one (common_factor h)))
        (divides_common_factor (common_factor h * k) h (record { nx = part h.nx a.nx c.nx; ny = part h.ny a.ny c.ny; nz = part h.nz a.nz c.nz; d = part h.d a.d c.d }))

-- a plane whose numbers are small in lowest terms
pub reduced_is_reduced : (h : Plane) → HasNormal h → HasSmallNormal (reduced h) → unsigned_abs (reduced h).d ≤ distance_bound → IsReduced (reduced h)
reduced_is_reduced h n small d = record {
  normal = reduced_has_normal h n;
  lowest = λ k a b c e. reduced_lowest h n k (record { nx = a; ny = b; nz = c; d = e });
  nx_small = small.x;
  ny_small = small.y;
  nz_small = small.z;
  d_small = d;
}

-- a plane with its sides exchanged is in lowest terms too
pub flipped_is_reduced : (h : Plane) → IsReduced h → IsReduced (flipped h)
flipped_is_reduced h r = record {
  normal = flipped_has_normal h r.normal;
  lowest = λ k x y z d. r.lowest k (divides_back k h.nx x) (divides_back k h.ny y) (divides_back k h.nz z) (divides_back k h.d d);
  nx_small = let s = r.nx_small in let e = abs_neg h.nx in omega arith;
  ny_small = let s = r.ny_small in let e = abs_neg h.ny in omega arith;
  nz_small = let s = r.nz_small in let e = abs_neg h.nz in omega arith;
  d_small = let s = r.d_small in let e = abs_neg h.d in omega arith;
}
  where
    divides_back : (k : ℕ) (z : ℤ) → k ∣ unsigned_abs (neg_ℤ z) → k ∣ unsigned_abs z
    divides_back k z c = subst (λ (n : ℕ). k ∣ n) (abs_neg z) c

-- ---- planes in lowest terms that lead positive are equal where multiples of them are

-- no number but 1 divides all four
abbrev pub IsLowest : Plane → Type 0
IsLowest h = (k : ℕ) → k ∣ unsigned_abs h.nx → k ∣ unsigned_abs h.ny → k ∣ unsigned_abs h.nz → k ∣ unsigned_abs h.d → k ≡ 1

-- where j · h is i · g, and g is in lowest terms, i is a multiple of j
factor_of_factor : (i j : ℤ) (g h : Plane) → scaled i g ≡ scaled j h → IsLowest g → (m : ℤ) × (i ≡ j *ℤ m)
factor_of_factor i j g h e l =
    let c = lowest_combination g.nx g.ny g.nz g.d l in
    let v = variable in
    let s = solved (i ∷ c.i ∷ c.j ∷ c.k ∷ c.l ∷ g.nx ∷ g.ny ∷ g.nz ∷ g.d ∷ [])
    (v 0 ⊗ (v 1 ⊗ v 5 ⊕ v 2 ⊗ v 6 ⊕ v 3 ⊗ v 7 ⊕ v 4 ⊗ v 8))
    (v 1 ⊗ (v 0 ⊗ v 5) ⊕ v 2 ⊗ (v 0 ⊗ v 6) ⊕ v 3 ⊗ (v 0 ⊗ v 7) ⊕ v 4 ⊗ (v 0 ⊗ v 8)) tt in
    let t = solved (j ∷ c.i ∷ c.j ∷ c.k ∷ c.l ∷ h.nx ∷ h.ny ∷ h.nz ∷ h.d ∷ [])
    (v 1 ⊗ (v 0 ⊗ v 5) ⊕ v 2 ⊗ (v 0 ⊗ v 6) ⊕ v 3 ⊗ (v 0 ⊗ v 7) ⊕ v 4 ⊗ (v 0 ⊗ v 8))
    (v 0 ⊗ (v 1 ⊗ v 5 ⊕ v 2 ⊗ v 6 ⊕ v 3 ⊗ v 7 ⊕ v 4 ⊗ v 8)) tt in (
      (((c.i *ℤ h.nx) +ℤ (c.j *ℤ h.ny)) +ℤ (c.k *ℤ h.nz)) +ℤ (c.l *ℤ h.d),
      sym (*ℤ_one i) ∙ ap (λ x. i *ℤ x) (sym c.total) ∙ s
          ∙ ap (λ p. (((c.i *ℤ p.nx) +ℤ (c.j *ℤ p.ny)) +ℤ (c.k *ℤ p.nz)) +ℤ (c.l *ℤ p.d)) e ∙ t,
    )

-- numbers that are multiples of one another, with one sign, are equal
mutual_multiples : (i j m n : ℤ) → (i ≡ pos 0 → ⊥) → i ≡ j *ℤ m → j ≡ i *ℤ n → m *ℤ n ≡ pos 1
mutual_multiples i j m n z e f =
    cancel_equal i (m *ℤ n) (pos 1) z (
    ap (λ x. i *ℤ x) (*ℤ_comm m n) ∙ sym (*ℤ_assoc i n m) ∙ ap (λ x. x *ℤ m) (sym f) ∙ sym e ∙ sym (*ℤ_one i))

-- a divisor of 1 that is positive is 1
one_divisor : (m n : ℤ) → pos 0 <ℤ m → m *ℤ n ≡ pos 1 → m ≡ pos 1
one_divisor m n p e =
    let q = positive_beside m n p (omega (arith, linear)) in
    let r = times_at_most m (pos 1) n (omega (arith, linear)) (omega (arith, linear)) in
    let o = *ℤ_one m in
    omega (arith, linear)

-- factors of planes that lead positive have one sign
factors_agree : (i j : ℤ) (g h : Plane) → (j ≡ pos 0 → ⊥) → scaled i g ≡ scaled j h → IsTrue (leads_positive g) → IsTrue (leads_positive h) → pos 0 <ℤ i → pos 0 <ℤ j
factors_agree i j g h n e s t p = by_sign j
    (λ l. absurd (true≢false (sym s ∙ sym (leads_scaled i g p) ∙ ap leads_positive e ∙ leads_turned j h l (leading_has_normal h t) ∙ ap not t)))
    (λ z. absurd (n z))
    (λ l. l)

scaled_cancel : (k : ℤ) (g h : Plane) → (k ≡ pos 0 → ⊥) → scaled k g ≡ scaled k h → g ≡ h
scaled_cancel k g h n e =
    same_plane g h (cancel_equal k g.nx h.nx n (ap (λ p. p.nx) e)) (cancel_equal k g.ny h.ny n (ap (λ p. p.ny) e)) (cancel_equal k g.nz h.nz n (ap (λ p. p.nz) e)) (cancel_equal k g.d h.d n (ap (λ p. p.d) e))

pub multiples_equal : (i j : ℤ) (g h : Plane) → (i ≡ pos 0 → ⊥) → (j ≡ pos 0 → ⊥) → scaled i g ≡ scaled j h → IsLowest g → IsLowest h → IsTrue (leads_positive g) → IsTrue (leads_positive h) → (g ≡ h) × (i ≡ j)
multiples_equal i j g h x y e k l s t =
    let m = factor_of_factor i j g h e k in
    let n = factor_of_factor j i h g (sym e) l in
    let u = mutual_multiples i j m.0 n.0 x m.1 n.1 in
    let one : m.0 ≡ pos 1 = one_divisor m.0 n.0 (ratio m.0 m.1) u in
    let same : i ≡ j = m.1 ∙ ap (λ r. j *ℤ r) one ∙ *ℤ_one j in
    (scaled_cancel j g h y (subst (λ r. scaled r g ≡ scaled j h) same e), same)
  where
    ratio : (m : ℤ) → i ≡ j *ℤ m → pos 0 <ℤ m
    ratio m w = by_sign i
        (λ a. by_sign j
        (λ b. by_sign m
        (λ c. let q = negative_times_negative j m b c in absurd (omega (arith, linear)))
        (λ c. absurd (x (w ∙ times_zero j m c)))
        (λ c. c))
        (λ b. absurd (y b))
        (λ b. let q = factors_agree j i h g x (sym e) t s b in absurd (omega (arith, linear))))
        (λ a. absurd (x a))
        (λ a. let b = factors_agree i j g h y e s t a in positive_beside j m b (omega (arith, linear)))

-- ---- planes in lowest terms are equal up to their sides where multiples of them are

-- of a multiple, the other side's is a multiple too
scaled_other : (k : ℤ) (h : Plane) → scaled k h ≡ scaled (neg_ℤ k) (flipped h)
scaled_other k h = sym (flipped_twice (scaled k h)) ∙ ap flipped (sym (scaled_flipped k h)) ∙ sym (scaled_neg k (flipped h))

flip_both : (g h : Plane) → flipped g ≡ flipped h → g ≡ h
flip_both g h e = sym (flipped_twice g) ∙ ap flipped e ∙ flipped_twice h

leads_when_flipped : (h : Plane) → IsReduced h → leads_positive h ≡ false → IsTrue (leads_positive (flipped h))
leads_when_flipped h r e = leads_flipped h r.normal ∙ ap not e

pub multiples_same_plane : (i j : ℤ) (g h : Plane) → (i ≡ pos 0 → ⊥) → (j ≡ pos 0 → ⊥) → scaled i g ≡ scaled j h → IsReduced g → IsReduced h → (g ≡ h) ⊎ (g ≡ flipped h)
multiples_same_plane i j g h x y e r s = by_leads (leads_positive g) (leads_positive h) refl refl
  where
    lowest : (p : Plane) → IsReduced p → IsLowest p
    lowest p q = q.lowest

    other : neg_ℤ j ≡ pos 0 → ⊥
    other z = y (omega (arith, linear))

    by_leads : (a b : Bool) → leads_positive g ≡ a → leads_positive h ≡ b → (g ≡ h) ⊎ (g ≡ flipped h)
    by_leads true true l m = inl (multiples_equal i j g h x y e (lowest g r) (lowest h s) l m).0
    by_leads true false l m =
        inr (multiples_equal i (neg_ℤ j) g (flipped h) x other (e ∙ scaled_other j h) (lowest g r) (lowest (flipped h) (flipped_is_reduced h s)) l (leads_when_flipped h s m)).0
    by_leads false true l m =
        inr (sym (flipped_twice g) ∙ ap flipped (multiples_equal i (neg_ℤ j) (flipped g) h x other (scaled_flipped i g ∙ ap flipped e ∙ sym (scaled_neg j h)) (lowest (flipped g) (flipped_is_reduced g r)) (lowest h s) (leads_when_flipped g r l) m).0)
    by_leads false false l m =
        inl (flip_both g h (multiples_equal i j (flipped g) (flipped h) x y (scaled_flipped i g ∙ ap flipped e ∙ sym (scaled_flipped j h)) (lowest (flipped g) (flipped_is_reduced g r)) (lowest (flipped h) (flipped_is_reduced h s)) (leads_when_flipped g r l) (leads_when_flipped h s m)).0)
