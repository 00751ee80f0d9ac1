-- The sign of an integer: three cases, the signs of products, and cancelling.
use Rattle.std.specs.Prelude.{int_lt}
use Rattle.std.proofs.Common.{◌≡◌, true, false, ℕ, suc, zero, ◌+◌, ◌*◌, ◌≤◌, ◌<◌, ℤ, pos, negsuc, ◌+ℤ◌, ◌-ℤ◌, ◌*ℤ◌, neg_ℤ, ◌≤ℤ◌, ◌<ℤ◌, ap, refl, ◌∙◌, arith, unsigned_abs, int_cmp, Less, Equal, Greater, ◌⊎◌, inl, inr, mul-le-mul}
use Rattle.std.proofs.lemmas.Int.{ints, unsigned_abs-mul}
use Rattle.std.proofs.Math.IntN.{*ℤ_comm}
use Rattle.qm_numbers.proofs.IntegerProducts.{linear, *ℤ--ℤ, *ℤ-neg, neg-*ℤ, *ℤ_zero}

-- ---- three cases

-- a number is negative, zero or positive
pub by_sign : {P : Type 0} (z : ℤ) → (z <ℤ pos 0 → P) → (z ≡ pos 0 → P) → (pos 0 <ℤ z → P) → P
by_sign (pos zero) n e p = e refl
by_sign (pos (suc k)) n e p = p (omega (arith, ints))
by_sign (negsuc k) n e p = n (omega (arith, ints))

-- of two numbers one is the less, or they are equal
pub by_order : {P : Type 0} (a b : ℤ) → (a <ℤ b → P) → (a ≡ b → P) → (b <ℤ a → P) → P
by_order a b l e g = by_sign (a -ℤ b) (λ h. l (omega (arith, linear))) (λ h. e (omega (arith, linear))) (λ h. g (omega (arith, linear)))

-- at least or less
pub by_least : {P : Type 0} (a b : ℤ) → (a <ℤ b → P) → (b ≤ℤ a → P) → P
by_least a b l g = by_order a b l (λ h. g (omega (arith, linear))) (λ h. g (omega (arith, linear)))

-- 0 or not
pub by_zero : {P : Type 0} (z : ℤ) → (z ≡ pos 0 → P) → ((z ≡ pos 0 → ⊥) → P) → P
by_zero z e n = by_sign z (λ h. n (λ f. absurd (omega (arith, linear)))) e (λ h. n (λ f. absurd (omega (arith, linear))))

-- the test for a number below 0, and what it says
pub side_test : (v : ℤ) → ((int_lt v (pos 0) ≡ true) × v <ℤ pos 0) ⊎ ((int_lt v (pos 0) ≡ false) × pos 0 ≤ℤ v)
side_test (pos n) = inr (grind arith, omega (arith, ints))
side_test (negsuc n) = inl (refl, omega (arith, ints))

-- a number that is neither below 0 nor 0 is above 0
pub above_zero : (v : ℤ) → pos 0 ≤ℤ v → (v ≡ pos 0 → ⊥) → pos 0 <ℤ v
above_zero v least other = by_sign v (λ h. absurd (omega (arith, linear))) (λ h. absurd (other h)) (λ h. h)

-- ---- products

pub product_positive : (a b : ℤ) → pos 0 <ℤ a → pos 0 <ℤ b → pos 0 <ℤ (a *ℤ b)
product_positive (pos zero) b h k = absurd (omega (arith, ints))
product_positive (pos (suc m)) (pos zero) h k = absurd (omega (arith, ints))
product_positive (pos (suc m)) (pos (suc n)) h k = let p : 0 < suc m * suc n = omega arith in omega (arith, ints)
product_positive (pos (suc m)) (negsuc n) h k = absurd (omega (arith, ints))
product_positive (negsuc m) b h k = absurd (omega (arith, ints))

pub positive_times_negative : (a b : ℤ) → pos 0 <ℤ a → b <ℤ pos 0 → (a *ℤ b) <ℤ pos 0
positive_times_negative a b h k = let p = product_positive a (neg_ℤ b) h (omega (arith, linear)) in let e = *ℤ-neg a b in omega (arith, linear)

pub negative_times_positive : (a b : ℤ) → a <ℤ pos 0 → pos 0 <ℤ b → (a *ℤ b) <ℤ pos 0
negative_times_positive a b h k = let p = positive_times_negative b a k h in let e = *ℤ_comm a b in omega (arith, linear)

pub negative_times_negative : (a b : ℤ) → a <ℤ pos 0 → b <ℤ pos 0 → pos 0 <ℤ (a *ℤ b)
negative_times_negative a b h k = let p = positive_times_negative (neg_ℤ a) b (omega (arith, linear)) k in let e = neg-*ℤ a b in omega (arith, linear)

zero_factor : (b : ℤ) → (a : ℤ) → a ≡ pos 0 → a *ℤ b ≡ pos 0
zero_factor b a e = ap (λ x. x *ℤ b) e ∙ *ℤ_comm (pos 0) b ∙ *ℤ_zero b

pub product_not_negative : (a b : ℤ) → pos 0 ≤ℤ a → pos 0 ≤ℤ b → pos 0 ≤ℤ (a *ℤ b)
product_not_negative a b h k = by_sign a
    (λ l. absurd (omega (arith, linear)))
    (λ e. let z = zero_factor b a e in omega (arith, linear))
    (λ l. by_sign b
    (λ m. absurd (omega (arith, linear)))
    (λ e. let z = zero_factor a b e in let c = *ℤ_comm a b in omega (arith, linear))
    (λ m. let p = product_positive a b l m in omega (arith, linear)))

pub product_not_positive : (a b : ℤ) → pos 0 ≤ℤ a → b ≤ℤ pos 0 → (a *ℤ b) ≤ℤ pos 0
product_not_positive a b h k = let p = product_not_negative a (neg_ℤ b) h (omega (arith, linear)) in let e = *ℤ-neg a b in omega (arith, linear)

pub square_not_negative : (a : ℤ) → pos 0 ≤ℤ (a *ℤ a)
square_not_negative a = by_least a (pos 0) (λ h. let p = negative_times_negative a a h h in omega (arith, linear)) (λ h. product_not_negative a a h h)

-- a product is 0 only where a factor is
pub zero_product : (a b : ℤ) → a *ℤ b ≡ pos 0 → (a ≡ pos 0) ⊎ (b ≡ pos 0)
zero_product a b e = by_sign a
    (λ h. inr (by_sign b (λ k. let p = negative_times_negative a b h k in absurd (omega (arith, linear))) (λ k. k) (λ k. let p = negative_times_positive a b h k in absurd (omega (arith, linear)))))
    (λ h. inl h)
    (λ h. inr (by_sign b (λ k. let p = positive_times_negative a b h k in absurd (omega (arith, linear))) (λ k. k) (λ k. let p = product_positive a b h k in absurd (omega (arith, linear)))))

-- a factor that is not 0 leaves the other
pub zero_beside : (a b : ℤ) → (a ≡ pos 0 → ⊥) → a *ℤ b ≡ pos 0 → b ≡ pos 0
zero_beside a b n e = by_side (zero_product a b e)
  where
    by_side : (a ≡ pos 0) ⊎ (b ≡ pos 0) → b ≡ pos 0
    by_side (inl h) = absurd (n h)
    by_side (inr h) = h

-- ---- a positive factor changes no sign

pub positive_beside : (a b : ℤ) → pos 0 <ℤ a → pos 0 <ℤ (a *ℤ b) → pos 0 <ℤ b
positive_beside a b h k = by_sign b
    (λ l. let p = positive_times_negative a b h l in absurd (omega (arith, linear)))
    (λ e. let p = zero_factor a b e in let c = *ℤ_comm a b in absurd (omega (arith, linear)))
    (λ l. l)

pub negative_beside : (a b : ℤ) → pos 0 <ℤ a → (a *ℤ b) <ℤ pos 0 → b <ℤ pos 0
negative_beside a b h k = let e = *ℤ-neg a b in let p = positive_beside a (neg_ℤ b) h (omega (arith, linear)) in omega (arith, linear)

pub not_negative_beside : (a b : ℤ) → pos 0 <ℤ a → pos 0 ≤ℤ (a *ℤ b) → pos 0 ≤ℤ b
not_negative_beside a b h k = by_least b (pos 0) (λ l. let p = positive_times_negative a b h l in absurd (omega (arith, linear))) (λ l. l)

pub not_positive_beside : (a b : ℤ) → pos 0 <ℤ a → (a *ℤ b) ≤ℤ pos 0 → b ≤ℤ pos 0
not_positive_beside a b h k = let e = *ℤ-neg a b in let p = not_negative_beside a (neg_ℤ b) h (omega (arith, linear)) in omega (arith, linear)

pub zero_beside_positive : (a b : ℤ) → pos 0 <ℤ a → a *ℤ b ≡ pos 0 → b ≡ pos 0
zero_beside_positive a b h e = zero_beside a b (λ z. absurd (omega (arith, linear))) e

-- ---- a common positive factor is cancelled, or put on

pub cancel_less : (k a b : ℤ) → pos 0 <ℤ k → (k *ℤ a) <ℤ (k *ℤ b) → a <ℤ b
cancel_less k a b h l = let e = *ℤ--ℤ k b a in let p = positive_beside k (b -ℤ a) h (omega (arith, linear)) in omega (arith, linear)

pub cancel_at_most : (k a b : ℤ) → pos 0 <ℤ k → (k *ℤ a) ≤ℤ (k *ℤ b) → a ≤ℤ b
cancel_at_most k a b h l = let e = *ℤ--ℤ k b a in let p = not_negative_beside k (b -ℤ a) h (omega (arith, linear)) in omega (arith, linear)

pub cancel_equal : (k a b : ℤ) → (k ≡ pos 0 → ⊥) → k *ℤ a ≡ k *ℤ b → a ≡ b
cancel_equal k a b n l = let e = *ℤ--ℤ k a b in let p = zero_beside k (a -ℤ b) n (omega (arith, linear)) in omega (arith, linear)

pub times_at_most : (k a b : ℤ) → pos 0 ≤ℤ k → a ≤ℤ b → (k *ℤ a) ≤ℤ (k *ℤ b)
times_at_most k a b h l = let e = *ℤ--ℤ k b a in let p = product_not_negative k (b -ℤ a) h (omega (arith, linear)) in omega (arith, linear)

-- ---- absolute values

pub abs_sum : (a b : ℤ) → unsigned_abs (a +ℤ b) ≤ unsigned_abs a + unsigned_abs b
abs_sum a b = omega (arith, ints)

pub abs_difference : (a b : ℤ) → unsigned_abs (a -ℤ b) ≤ unsigned_abs a + unsigned_abs b
abs_difference a b = omega (arith, ints)

pub abs_neg : (a : ℤ) → unsigned_abs (neg_ℤ a) ≡ unsigned_abs a
abs_neg a = omega (arith, ints)

pub abs_product : (a b : ℤ) → unsigned_abs (a *ℤ b) ≡ unsigned_abs a * unsigned_abs b
abs_product a b = unsigned_abs-mul a b

-- a bound on each factor bounds the product
pub abs_product_bound : (a b : ℤ) (m n : ℕ) → unsigned_abs a ≤ m → unsigned_abs b ≤ n → unsigned_abs (a *ℤ b) ≤ m * n
abs_product_bound a b m n h k = let e = unsigned_abs-mul a b in let p : unsigned_abs a * unsigned_abs b ≤ m * n = mul-le-mul h k in omega arith

pub abs_zero : (a : ℤ) → unsigned_abs a ≡ 0 → a ≡ pos 0
abs_zero a e = omega (arith, ints)

-- an absolute value is a bound on both sides
pub abs_at_most : (a : ℤ) (m : ℕ) → neg_ℤ (pos m) ≤ℤ a → a ≤ℤ pos m → unsigned_abs a ≤ m
abs_at_most a m h k = omega (arith, ints)

pub within_abs : (a : ℤ) (m : ℕ) → unsigned_abs a ≤ m → (neg_ℤ (pos m) ≤ℤ a) × (a ≤ℤ pos m)
within_abs a m h = omega (arith, ints)

-- ---- comparisons

pub compares_less : (a b : ℤ) → a <ℤ b → int_cmp a b ≡ Less
compares_less a b h = grind (arith, ints)

pub compares_greater : (a b : ℤ) → b <ℤ a → int_cmp a b ≡ Greater
compares_greater a b h = grind (arith, ints)

pub compares_equal : (a b : ℤ) → a ≡ b → int_cmp a b ≡ Equal
compares_equal a b h = grind (arith, ints)

pub less_compares : (a b : ℤ) → int_cmp a b ≡ Less → a <ℤ b
less_compares a b h = grind (arith, ints)

pub greater_compares : (a b : ℤ) → int_cmp a b ≡ Greater → b <ℤ a
greater_compares a b h = grind (arith, ints)

pub equal_compares : (a b : ℤ) → int_cmp a b ≡ Equal → a ≡ b
equal_compares a b h = grind (arith, ints)
