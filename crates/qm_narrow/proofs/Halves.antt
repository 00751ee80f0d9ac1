-- The greatest common divisor by differences and halves.
use Rattle.std.proofs.Common.{refl, ℤ, pos, negsuc, neg_ℤ, unsigned_abs, int_div, ◌≡◌, ◌∙◌, ℕ, zero, suc, ◌+◌, ◌-◌, ◌*◌, ◌/◌, ◌%◌, ◌^◌, ◌<◌, ◌≤◌, min, max, ap, sym, subst, arith, w64, ⊎_elim, div-add-mod', mod-lt, eq-zero-or-pos}
use Rattle.std.specs.Int.Signed.{shr_z}
use Rattle.std.specs.Int.{◌∣◌, IsGcd, bit_at, trailing_zeros}
use Rattle.std.proofs.Math.Nat.{dvd-add, dvd-add_iff_right, dvd-mul_left, dvd-mul_left_of_dvd, dvd-mul_right_of_dvd, dvd_of_mul-dvd-mul_right, mul-dvd-mul_right, div-mul_cancel, eq-zero_of_zero-dvd, mul_left_comm, mul-add, mul-one, mul_assoc, pow-suc, suc-mul, zero-mul, mul-le-mul_left, mod-eq_of_lt}
use Rattle.std.proofs.lemmas.Nat.{div-mul-add, pow-add, pow_pos, mod-pow-add}
use Rattle.std.proofs.lemmas.Nat.Bits.{bit_at-trailing_zeros}
use Rattle.std.proofs.lemmas.Nat.Gcd.{IsGcd-swap, IsGcd-from_sub, IsGcd-from_zero, same_from_IsGcd, dvd_refl, dvd_trans, dvd-zero, le_of_dvd, dvd_of_mod-eq-zero, mod-eq-zero_of_dvd}
use Rattle.std.proofs.lemmas.Bool.{cases_lt}
use Rattle.qm_numbers.specs.Gcd.{gcd}
use Rattle.qm_numbers.proofs.Divisors.{gcd_is, gcd_swapped, gcd_divides_left, gcd_divides_right, divides_gcd}

-- ---- a number without its factors of two

no_rest : (n k : ℕ) → ((i : ℕ) → i < k → bit_at n i ≡ 0) → n % 2 ^ k ≡ 0
no_rest n zero none = omega arith
no_rest n (suc k) none =
    let rest = no_rest n k (λ i l. none i (omega arith)) in
    let last : n / 2 ^ k % 2 ^ 1 ≡ 0 = none k (omega arith) in
    ap (λ (j : ℕ). n % 2 ^ j) (omega arith) ∙ mod-pow-add n 1 k ∙ (λ i. last i * 2 ^ k + rest i) ∙ omega arith

module _ (n : ℕ) (some : 0 < n) (fits : n < 2 ^ 64) where
  pub shift_small : trailing_zeros w64 n < 64
  shift_small = (bit_at-trailing_zeros w64 n some fits).0

  pub odd_part_odd : n / 2 ^ trailing_zeros w64 n % 2 ≡ 1
  odd_part_odd = (bit_at-trailing_zeros w64 n some fits).1

  pub odd_part_product : n / 2 ^ trailing_zeros w64 n * 2 ^ trailing_zeros w64 n ≡ n
  odd_part_product = let k = trailing_zeros w64 n in
      div-mul_cancel (2 ^ k) (dvd_of_mod-eq-zero (2 ^ k) (no_rest n k (bit_at-trailing_zeros w64 n some fits).2))

-- ---- halves, where one number is odd

-- what is odd and divides the double divides the number
of_double : (d b : ℕ) → d % 2 ≡ 1 → d ∣ b * 2 → d ∣ b
of_double d b odd p =
    let e = div-add-mod' d 2 in
    let half : d ≡ d / 2 * 2 + 1 = omega arith in
    let same : b * d ≡ d / 2 * (b * 2) + b = ap (λ n. b * n) half ∙ mul-add b (d / 2 * 2) 1 ∙ (λ i. mul_left_comm b (d / 2) 2 i + mul-one b i) in
    (dvd-add_iff_right d (dvd-mul_left_of_dvd d p (d / 2))).1 (subst (λ n. d ∣ n) same (dvd-mul_left d b))

of_product : (k d b : ℕ) → d % 2 ≡ 1 → d ∣ b * 2 ^ k → d ∣ b
of_product zero d b odd p = subst (λ n. d ∣ n) (mul-one b) p
of_product (suc k) d b odd p = of_product k d b odd (of_double d (b * 2 ^ k) odd (subst (λ n. d ∣ n) (ap (λ n. b * n) (pow-suc 2 k) ∙ sym (mul_assoc b (2 ^ k) 2)) p))

odd_some : (a : ℕ) → a % 2 ≡ 1 → 0 < a
odd_some a odd = omega arith

-- what divides an odd number is odd
odd_divisor : (a d : ℕ) → a % 2 ≡ 1 → d ∣ a → d % 2 ≡ 1
odd_divisor a d odd p = ⊎_elim
    (λ even. let e = mod-eq-zero_of_dvd 2 (dvd_trans 2 (dvd_of_mod-eq-zero 2 even) p) in absurd (omega arith))
    (λ is. let l : d % 2 < 2 = mod-lt d (omega arith) in omega arith)
    (eq-zero-or-pos (d % 2))

pub beside_odd : (k a b g : ℕ) → a % 2 ≡ 1 → IsGcd a b g → IsGcd a (b * 2 ^ k) g
beside_odd k a b g odd h = (h.0, dvd-mul_right_of_dvd g h.1 (2 ^ k), λ d p q. h.2 d p (of_product k d b (odd_divisor a d odd p) q))

-- the lesser of two odd numbers, and what is odd of their difference
module _ (a b less rest k : ℕ) (first : a % 2 ≡ 1) (second : b % 2 ≡ 1) (is : less ≡ min a b) (product : rest * 2 ^ k ≡ max a b - less) where
  pub less_odd : less % 2 ≡ 1
  less_odd = ⊎_elim
      (λ l. let e : less ≡ a = omega arith in ap (λ (n : ℕ). n % 2) e ∙ first)
      (λ l. let e : less ≡ b = omega arith in ap (λ (n : ℕ). n % 2) e ∙ second)
      (cases_lt a b)

  pub from_difference : (g : ℕ) → IsGcd less rest g → IsGcd a b g
  from_difference g h = ⊎_elim
      (λ l. IsGcd-swap b a g (IsGcd-from_sub b a g (omega arith) (IsGcd-swap a (b - a) g (at (omega arith) (omega arith)))))
      (λ l. IsGcd-from_sub a b g l (IsGcd-swap b (a - b) g (at (omega arith) (omega arith))))
      (cases_lt a b)
    where
      at : {m n : ℕ} → less ≡ m → max a b - less ≡ n → IsGcd m n g
      at {m} {n} e f = subst (λ d. IsGcd d n g) e (subst (λ d. IsGcd less d g) (product ∙ f) (beside_odd k less rest g less_odd h))

  pub difference_smaller : less + rest < a + b
  difference_smaller =
      let p = pow_pos k in
      let m : rest * 1 ≤ rest * 2 ^ k = mul-le-mul_left rest (omega arith) in
      let e = mul-one rest in
      let f : 0 < a = odd_some a first in
      let s : 0 < b = odd_some b second in
      omega arith

-- ---- one factor of both

pub times_both : (c a b g : ℕ) → 0 < c → IsGcd a b g → IsGcd (a * c) (b * c) (g * c)
times_both c a b g some h = (mul-dvd-mul_right g h.0 c, mul-dvd-mul_right g h.1 c, λ d p q. dvd_trans d (divides_gcd (a * c) (b * c) d p q) within)
  where
    common : ℕ
    common = gcd (a * c) (b * c)

    rest : ℕ
    rest = common / c

    is : rest * c ≡ common
    is = div-mul_cancel c (divides_gcd (a * c) (b * c) c (dvd-mul_left c a) (dvd-mul_left c b))

    of_first : rest ∣ a
    of_first = dvd_of_mul-dvd-mul_right rest some (subst (λ n. n ∣ a * c) (sym is) (gcd_divides_left (a * c) (b * c)))

    of_second : rest ∣ b
    of_second = dvd_of_mul-dvd-mul_right rest some (subst (λ n. n ∣ b * c) (sym is) (gcd_divides_right (a * c) (b * c)))

    within : common ∣ g * c
    within = subst (λ n. n ∣ g * c) is (mul-dvd-mul_right rest (h.2 rest of_first of_second) c)

-- two odd numbers times powers of two
by_less : (s t a b g : ℕ) → s ≤ t → a % 2 ≡ 1 → IsGcd a b g → IsGcd (a * 2 ^ s) (b * 2 ^ t) (g * 2 ^ s)
by_less s t a b g l odd h = subst (λ n. IsGcd (a * 2 ^ s) n (g * 2 ^ s)) same (times_both (2 ^ s) a (b * 2 ^ (t - s)) g (pow_pos s) (beside_odd (t - s) a b g odd h))
  where
    same : b * 2 ^ (t - s) * 2 ^ s ≡ b * 2 ^ t
    same = mul_assoc b (2 ^ (t - s)) (2 ^ s) ∙ ap (λ n. b * n) (sym (pow-add 2 (t - s) s) ∙ ap (λ (k : ℕ). 2 ^ k) (omega arith))

pub of_odd_parts : (s t a b g : ℕ) → a % 2 ≡ 1 → b % 2 ≡ 1 → IsGcd a b g → IsGcd (a * 2 ^ s) (b * 2 ^ t) (g * 2 ^ min s t)
of_odd_parts s t a b g a_odd b_odd h = ⊎_elim
    (λ l. let e : min s t ≡ s = omega arith in subst (λ (k : ℕ). IsGcd (a * 2 ^ s) (b * 2 ^ t) (g * 2 ^ k)) (sym e) (by_less s t a b g (omega arith) a_odd h))
    (λ l. let e : min s t ≡ t = omega arith in subst (λ (k : ℕ). IsGcd (a * 2 ^ s) (b * 2 ^ t) (g * 2 ^ k)) (sym e) (IsGcd-swap (b * 2 ^ t) (a * 2 ^ s) (g * 2 ^ t) (by_less t s b a g l b_odd (IsGcd-swap a b g h))))
    (cases_lt s t)

-- ---- sizes

-- the greatest common divisor is no greater than the sum
pub gcd_at_most : (a b : ℕ) → gcd a b ≤ a + b
gcd_at_most a b = ⊎_elim
    (λ zero. let e = eq-zero_of_zero-dvd (divides_gcd a b 0 (subst (λ n. 0 ∣ n) (omega arith) (dvd-zero 0)) (subst (λ n. 0 ∣ n) (omega arith) (dvd-zero 0))) in omega arith)
    (λ some. le_of_dvd some (dvd-add (gcd a b) (gcd_divides_left a b) (gcd_divides_right a b)))
    (eq-zero-or-pos (a + b))

-- the greatest common divisor of two numbers, from that of their odd parts; 64 bits hold it
pub by_odd_parts : (a b s t m first second g : ℕ) → 0 < a → a < 2 ^ 64 → first % 2 ≡ 1 → second % 2 ≡ 1 → first * 2 ^ s ≡ a → second * 2 ^ t ≡ b → m ≡ min s t → g ≡ gcd first second → g * 2 ^ m % 2 ^ 64 ≡ gcd a b
by_odd_parts a b s t m first second g some fits first_odd second_odd of_first of_second less is = mod-eq_of_lt within ∙ same
  where
    parts : IsGcd (first * 2 ^ s) (second * 2 ^ t) (gcd first second * 2 ^ min s t)
    parts = of_odd_parts s t first second (gcd first second) first_odd second_odd (gcd_is first second)

    same : g * 2 ^ m ≡ gcd a b
    same = (λ i. is i * 2 ^ less i) ∙ same_from_IsGcd a b (gcd first second * 2 ^ min s t) (gcd a b)
        (subst (λ n. IsGcd n b (gcd first second * 2 ^ min s t)) of_first (subst (λ n. IsGcd (first * 2 ^ s) n (gcd first second * 2 ^ min s t)) of_second parts)) (gcd_is a b)

    within : g * 2 ^ m < 2 ^ 64
    within = let l : gcd a b ≤ a = le_of_dvd some (gcd_divides_left a b) in let e = same in omega arith

-- where one number is 0, it is the other
pub gcd_with_zero : (a b : ℕ) → b ≡ 0 → a ≡ gcd a b
gcd_with_zero a b none = same_from_IsGcd a b a (gcd a b) (IsGcd-from_zero a b none) (gcd_is a b)

pub gcd_of_zero : (a b : ℕ) → a ≡ 0 → b ≡ gcd a b
gcd_of_zero a b none = gcd_with_zero b a none ∙ gcd_swapped b a

pub gcd_of_same : (a b : ℕ) → a ≡ b → IsGcd a b a
gcd_of_same a b same = (dvd_refl a, subst (λ n. a ∣ n) same (dvd_refl a), λ d p q. p)

-- ---- a division without a remainder

-- a shift to the right divides exactly where no digit is lost
pub shift_divides : (z : ℤ) (m : ℕ) → 0 < m → m ∣ unsigned_abs z → shr_z z m ≡ int_div z (pos m)
shift_divides (pos n) m some h = refl
shift_divides (negsuc n) m some h = ap negsuc rest ∙ ap (λ k. neg_ℤ (pos k)) (sym next)
  where
    whole : suc n / m * m ≡ suc n
    whole = div-mul_cancel m h

    less : ℕ
    less = suc n / m - 1

    next : suc n / m ≡ suc less
    next = ⊎_elim (λ none. let e : suc n / m * m ≡ 0 = ap (λ (k : ℕ). k * m) none ∙ zero-mul m in let w = whole in absurd (omega arith)) (λ is. omega arith) (eq-zero-or-pos (suc n / m))

    split : n ≡ less * m + (m - 1)
    split = let e : suc n / m * m ≡ suc less * m = ap (λ k. k * m) next in let p = suc-mul less m in let w = whole in omega arith

    rest : n / m ≡ less
    rest = ap (λ k. k / m) split ∙ div-mul-add less m (m - 1) (omega arith)
