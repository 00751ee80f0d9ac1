-- The greatest common divisor, combinations of numbers that give it, and division.
use Rattle.std.proofs.Common.{refl, ◌≡◌, ℕ, suc, zero, ◌*◌, ◌/◌, ◌%◌, ◌≤◌, ◌<◌, ℤ, pos, negsuc, ◌+ℤ◌, ◌-ℤ◌, ◌*ℤ◌, neg_ℤ, ◌≤ℤ◌, ◌<ℤ◌, [], ◌∷◌, ap, sym, subst, ◌∙◌, arith, unsigned_abs, int_div, int_rem, mod-lt, div-add-mod', mul-le-mul}
use Rattle.std.specs.Int.{◌∣◌, IsGcd}
use Rattle.std.proofs.lemmas.Int.{ints, quot-rem}
use Rattle.std.proofs.lemmas.Nat.Gcd.{IsGcd-from_mod, IsGcd-swap, same_from_IsGcd, dvd_refl, dvd-zero, dvd_trans, mod-eq-zero_of_dvd}
use Rattle.std.proofs.Math.Nat.{mul-div_cancel'}
use Rattle.std.proofs.Math.IntN.{*ℤ_comm}
use Rattle.qm_numbers.specs.Gcd.{gcd, gcd_within}
use Rattle.qm_numbers.specs.GreatestDivisor.{IsGreatestDivisor}
use Rattle.qm_numbers.specs.FloorDivision.{floor_div}
use Rattle.qm_numbers.specs.Rounding.{IsRoundedDown}
use Rattle.qm_numbers.proofs.IntegerProducts.{linear, *ℤ_assoc, +ℤ-*ℤ, one_*ℤ, zero_*ℤ}
use Rattle.qm_numbers.proofs.Signs.{abs_product}
use Rattle.qm_numbers.proofs.Ring.{variable, ◌⊕◌, ◌⊖◌, ◌⊗◌, solved}

-- ---- the greatest common divisor

gcd_within_is : (turns a b : ℕ) → b < turns → IsGcd a b (gcd_within turns a b)
unfolding gcd_within
gcd_within_is zero a b h = absurd (omega arith)
gcd_within_is (suc turns) a zero h = (dvd_refl a, dvd-zero a, λ d p q. p)
gcd_within_is (suc turns) a (suc b) h =
    let less : a % suc b < suc b = mod-lt a (omega arith) in
    IsGcd-from_mod a (suc b) (gcd_within turns (suc b) (a % suc b)) (gcd_within_is turns (suc b) (a % suc b) (omega arith))

pub gcd_is : (a b : ℕ) → IsGcd a b (gcd a b)
unfolding gcd
gcd_is a b = gcd_within_is (suc b) a b (omega arith)

-- in whatever order they are named
pub gcd_swapped : (a b : ℕ) → gcd a b ≡ gcd b a
gcd_swapped a b = same_from_IsGcd a b (gcd a b) (gcd b a) (gcd_is a b) (IsGcd-swap b a (gcd b a) (gcd_is b a))

pub gcd_divides_left : (a b : ℕ) → gcd a b ∣ a
gcd_divides_left a b = (gcd_is a b).0

pub gcd_divides_right : (a b : ℕ) → gcd a b ∣ b
gcd_divides_right a b = (gcd_is a b).1

pub divides_gcd : (a b k : ℕ) → k ∣ a → k ∣ b → k ∣ gcd a b
divides_gcd a b k p q = (gcd_is a b).2 k p q

-- two numbers have a greatest divisor
unfoldable pub divisor_of_two : (a b : ℕ) → (g : ℕ) × IsGcd a b g
divisor_of_two a b = (gcd a b, gcd_is a b)

pub gcd_of_four : (a b c d : ℕ) → IsGreatestDivisor a b c d (gcd (gcd (gcd a b) c) d)
gcd_of_four a b c d =
    let f = gcd a b in let g = gcd f c in let k = gcd g d in
    let kg = gcd_divides_left g d in
    let kf = dvd_trans k kg (gcd_divides_left f c) in
    record {
      first = dvd_trans k kf (gcd_divides_left a b);
      second = dvd_trans k kf (gcd_divides_right a b);
      third = dvd_trans k kg (gcd_divides_right f c);
      fourth = gcd_divides_right g d;
      greatest = λ n p q r s. divides_gcd g d n (divides_gcd f c n (divides_gcd a b n p q) r) s;
    }

-- and so have four
unfoldable pub divisor_of_four : (a b c d : ℕ) → (g : ℕ) × IsGreatestDivisor a b c d g
divisor_of_four a b c d = (gcd (gcd (gcd a b) c) d, gcd_of_four a b c d)

-- ---- combinations: g is x · a + y · b for some x and y

pub record IsCombination (a b g : ℤ) : Type 0 where
  pub x : ℤ
  pub y : ℤ
  pub total : (x *ℤ a) +ℤ (y *ℤ b) ≡ g

-- from numbers b and r = a - q b to numbers a and b
combination_step : (a b q r g : ℤ) → (q *ℤ b) +ℤ r ≡ a → IsCombination b r g → IsCombination a b g
combination_step a b q r g e c =
    let v = variable in
    let s = solved (c.x ∷ c.y ∷ b ∷ r ∷ q ∷ []) (v 1 ⊗ (v 4 ⊗ v 2 ⊕ v 3) ⊕ (v 0 ⊖ v 1 ⊗ v 4) ⊗ v 2) (v 0 ⊗ v 2 ⊕ v 1 ⊗ v 3) tt in
    let t = ap (λ z. c.y *ℤ z) e in
    let w = c.total in
    record { x = c.y; y = c.x -ℤ (c.y *ℤ q); total = omega (arith, linear) }

gcd_within_combination : (turns a b : ℕ) → IsCombination (pos a) (pos b) (pos (gcd_within turns a b))
unfolding gcd_within
gcd_within_combination zero a b = record { x = pos 1; y = pos 0; total = let e = one_*ℤ (pos a) in let f = zero_*ℤ (pos b) in omega (arith, linear) }
gcd_within_combination (suc turns) a zero = record { x = pos 1; y = pos 0; total = let e = one_*ℤ (pos a) in let f = zero_*ℤ (pos 0) in omega (arith, linear) }
gcd_within_combination (suc turns) a (suc b) =
    combination_step (pos a) (pos (suc b)) (pos (a / suc b)) (pos (a % suc b)) (pos (gcd_within turns (suc b) (a % suc b)))
    (ap pos (div-add-mod' a (suc b))) (gcd_within_combination turns (suc b) (a % suc b))

pub gcd_combination : (a b : ℕ) → IsCombination (pos a) (pos b) (pos (gcd a b))
unfolding gcd
gcd_combination a b = gcd_within_combination (suc b) a b

-- an absolute value is the number times 1 or -1
pub abs_multiple : (z : ℤ) → (s : ℤ) × (s *ℤ z ≡ pos (unsigned_abs z))
abs_multiple (pos n) = (pos 1, one_*ℤ (pos n))
abs_multiple (negsuc n) = (negsuc 0, omega (arith, ints))

-- the greatest common divisor of two integers' absolute values is a combination of them
pub bezout : (a b : ℤ) → IsCombination a b (pos (gcd (unsigned_abs a) (unsigned_abs b)))
bezout a b =
    let c = gcd_combination (unsigned_abs a) (unsigned_abs b) in
    let s = abs_multiple a in let t = abs_multiple b in
    let first = ap (λ z. c.x *ℤ z) s.1 in let second = ap (λ z. c.y *ℤ z) t.1 in
    let e = *ℤ_assoc c.x s.0 a in let f = *ℤ_assoc c.y t.0 b in
    let w = c.total in
    record { x = c.x *ℤ s.0; y = c.y *ℤ t.0; total = omega (arith, linear) }

-- g is a combination of four numbers
pub record IsCombinationOfFour (a b c d g : ℤ) : Type 0 where
  pub i : ℤ
  pub j : ℤ
  pub k : ℤ
  pub l : ℤ
  pub total : (((i *ℤ a) +ℤ (j *ℤ b)) +ℤ (k *ℤ c)) +ℤ (l *ℤ d) ≡ g

-- three combinations, one of another
combination_of_four : (a b c d f g h : ℤ) → IsCombination a b f → IsCombination f c g → IsCombination g d h → IsCombinationOfFour a b c d h
combination_of_four a b c d f g h p q r =
    let v = variable in
    let s = solved (a ∷ b ∷ c ∷ d ∷ p.x ∷ p.y ∷ q.x ∷ q.y ∷ r.x ∷ r.y ∷ [])
    ((((v 8 ⊗ v 6 ⊗ v 4) ⊗ v 0 ⊕ (v 8 ⊗ v 6 ⊗ v 5) ⊗ v 1) ⊕ (v 8 ⊗ v 7) ⊗ v 2) ⊕ v 9 ⊗ v 3)
    (v 8 ⊗ (v 6 ⊗ (v 4 ⊗ v 0 ⊕ v 5 ⊗ v 1) ⊕ v 7 ⊗ v 2) ⊕ v 9 ⊗ v 3) tt in
    let inner = ap (λ z. r.x *ℤ ((q.x *ℤ z) +ℤ (q.y *ℤ c))) p.total in
    let middle = ap (λ z. r.x *ℤ z) q.total in
    let outer = r.total in
    record { i = (r.x *ℤ q.x) *ℤ p.x; j = (r.x *ℤ q.x) *ℤ p.y; k = r.x *ℤ q.y; l = r.y; total = omega (arith, linear) }

pub bezout_of_four : (a b c d : ℤ) → IsCombinationOfFour a b c d (pos (gcd (gcd (gcd (unsigned_abs a) (unsigned_abs b)) (unsigned_abs c)) (unsigned_abs d)))
bezout_of_four a b c d =
    let f = gcd (unsigned_abs a) (unsigned_abs b) in
    let g = gcd f (unsigned_abs c) in
    combination_of_four a b c d (pos f) (pos g) (pos (gcd g (unsigned_abs d))) (bezout a b) (bezout (pos f) c) (bezout (pos g) d)

-- four numbers with no common factor but 1 combine to 1
pub lowest_combination : (a b c d : ℤ) → ((k : ℕ) → k ∣ unsigned_abs a → k ∣ unsigned_abs b → k ∣ unsigned_abs c → k ∣ unsigned_abs d → k ≡ 1) → IsCombinationOfFour a b c d (pos 1)
lowest_combination a b c d lowest =
    let x = unsigned_abs a in let y = unsigned_abs b in let z = unsigned_abs c in let w = unsigned_abs d in
    let f = gcd x y in let g = gcd f z in let h = gcd g w in
    let hg = gcd_divides_left g w in
    let gf = gcd_divides_left f z in
    let hf = dvd_trans h hg gf in
    let one = lowest h (dvd_trans h hf (gcd_divides_left x y)) (dvd_trans h hf (gcd_divides_right x y)) (dvd_trans h hg (gcd_divides_right f z)) (gcd_divides_right g w) in
    subst (λ (n : ℕ). IsCombinationOfFour a b c d (pos n)) one (bezout_of_four a b c d)

-- ---- division with no remainder

-- a divisor of the absolute value leaves no remainder, and divides the number itself
pub exact_division : (z : ℤ) (k : ℕ) → k ∣ unsigned_abs z → pos k *ℤ int_div z (pos k) ≡ z
exact_division (pos n) k h = ap pos (mul-div_cancel' k h)
exact_division (negsuc n) k h =
    let e = mul-div_cancel' k h in
    let q = quot-rem (negsuc n) (pos k) in
    let r : suc n % k ≡ 0 = mod-eq-zero_of_dvd k h in
    let s : int_rem (negsuc n) (pos k) ≡ pos 0 = ap (λ m. neg_ℤ (pos m)) r in
    let c = *ℤ_comm (pos k) (int_div (negsuc n) (pos k)) in
    omega (arith, linear)

-- the absolute value of the quotient times the divisor is the number's
pub abs_exact_division : (z : ℤ) (k : ℕ) → k ∣ unsigned_abs z → k * unsigned_abs (int_div z (pos k)) ≡ unsigned_abs z
abs_exact_division z k h = sym (abs_product (pos k) (int_div z (pos k))) ∙ ap unsigned_abs (exact_division z k h)

-- a quotient is no greater
pub abs_division_at_most : (z : ℤ) (k : ℕ) → 0 < k → k ∣ unsigned_abs z → unsigned_abs (int_div z (pos k)) ≤ unsigned_abs z
abs_division_at_most z k p h =
    let e = abs_exact_division z k h in
    let m : 1 * unsigned_abs (int_div z (pos k)) ≤ k * unsigned_abs (int_div z (pos k)) = mul-le-mul p (omega arith) in
    omega arith

-- ---- floor division

floor_parts : (a b : ℤ) → pos 0 <ℤ b → ((floor_div a b *ℤ b) ≤ℤ a) × (a <ℤ ((floor_div a b *ℤ b) +ℤ b))
unfolding floor_div
floor_parts (pos n) (pos zero) h = absurd (omega (arith, ints))
floor_parts (pos n) (pos (suc m)) h =
    let e = div-add-mod' n (suc m) in
    let l : n % suc m < suc m = mod-lt n (omega arith) in
    (omega (arith, ints), omega (arith, ints))
floor_parts (pos n) (negsuc m) h = absurd (omega (arith, ints))
floor_parts (negsuc n) (pos zero) h = absurd (omega (arith, ints))
floor_parts (negsuc n) (pos (suc m)) h =
    let e = div-add-mod' n (suc m) in
    let l : n % suc m < suc m = mod-lt n (omega arith) in
    (omega (arith, ints), omega (arith, ints))
floor_parts (negsuc n) (negsuc m) h = absurd (omega (arith, ints))

-- the floor of a / b is the fraction rounded down
pub floor_div_is : (a b : ℤ) → pos 0 <ℤ b → IsRoundedDown a b (floor_div a b)
floor_div_is a b h =
    let f = floor_parts a b h in
    let e = +ℤ-*ℤ (floor_div a b) (pos 1) b in let o = one_*ℤ b in
    record { at_most = f.0; next = let l = f.1 in omega (arith, linear) }

-- worked rows
gcd_row : gcd 12 18 ≡ 6
unfolding gcd gcd_within
gcd_row = refl

floor_row : floor_div (neg_ℤ (pos 7)) (pos 2) ≡ neg_ℤ (pos 4)
unfolding floor_div
floor_row = refl
