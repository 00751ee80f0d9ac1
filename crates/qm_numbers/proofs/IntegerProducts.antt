-- The laws of the product of integers, and linear arithmetic in which each product is an unknown.
use Rattle.std.proofs.Common.{◌≡◌, ℕ, ◌*◌, ℤ, pos, ◌+ℤ◌, ◌-ℤ◌, ◌*ℤ◌, neg_ℤ, ap, sym, ◌∙◌, arith}
use Rattle.std.proofs.lemmas.Int.{ints}
use Rattle.std.proofs.Math.IntN.{*ℤ_comm}
use borrow.Author.Differences.{up, down, same_in, same_out, lt_out, le_out, below_in, at_most_in, Apart-out, sum_is_lem, neg_is, product_is}

-- `omega (arith, linear)` proves what is linear in ℤ: each product of two integers is an unknown, whatever stands in it
pub ruleset linear = (same_out, Apart-out, lt_out, le_out, same_in, below_in, at_most_in, sum_is_lem, neg_is)

times : (k m n : ℕ) → m ≡ n → m * k ≡ n * k
times k m n e = ap (λ x. x * k) e

pub *ℤ_assoc : (a b c : ℤ) → (a *ℤ b) *ℤ c ≡ a *ℤ (b *ℤ c)
*ℤ_assoc a b c =
    let ab = product_is a b in
    let bc = product_is b c in
    let left = product_is (a *ℤ b) c in
    let right = product_is a (b *ℤ c) in
    same_in _ _ (omega (arith, times (up c) _ _ ab.0, times (down c) _ _ ab.1, times (up a) _ _ bc.0, times (down a) _ _ bc.1, times (down c) _ _ ab.0, times (up c) _ _ ab.1, times (down a) _ _ bc.0, times (up a) _ _ bc.1))

pub *ℤ-+ℤ : (a b c : ℤ) → a *ℤ (b +ℤ c) ≡ (a *ℤ b) +ℤ (a *ℤ c)
*ℤ-+ℤ a b c =
    let left = product_is a (b +ℤ c) in
    let ab = product_is a b in
    let ac = product_is a c in
    let total = sum_is_lem (a *ℤ b) (a *ℤ c) in
    same_in _ _ (omega (arith, times (up a) _ _ (sum_is_lem b c), times (down a) _ _ (sum_is_lem b c)))

pub *ℤ-neg : (a b : ℤ) → a *ℤ neg_ℤ b ≡ neg_ℤ (a *ℤ b)
*ℤ-neg a b =
    let n = neg_is b in
    let left = product_is a (neg_ℤ b) in
    let ab = product_is a b in
    let right = neg_is (a *ℤ b) in
    same_in _ _ (omega (arith, times (up a) _ _ n.0, times (down a) _ _ n.0, times (up a) _ _ n.1, times (down a) _ _ n.1))

pub neg-*ℤ : (a b : ℤ) → neg_ℤ a *ℤ b ≡ neg_ℤ (a *ℤ b)
neg-*ℤ a b = *ℤ_comm (neg_ℤ a) b ∙ *ℤ-neg b a ∙ ap neg_ℤ (*ℤ_comm b a)

pub *ℤ--ℤ : (a b c : ℤ) → a *ℤ (b -ℤ c) ≡ (a *ℤ b) -ℤ (a *ℤ c)
*ℤ--ℤ a b c = *ℤ-+ℤ a b (neg_ℤ c) ∙ ap (λ x. (a *ℤ b) +ℤ x) (*ℤ-neg a c)

pub +ℤ-*ℤ : (a b c : ℤ) → (a +ℤ b) *ℤ c ≡ (a *ℤ c) +ℤ (b *ℤ c)
+ℤ-*ℤ a b c = let e = *ℤ-+ℤ c a b in let ca = *ℤ_comm c a in let cb = *ℤ_comm c b in *ℤ_comm (a +ℤ b) c ∙ omega (arith, linear)

pub -ℤ-*ℤ : (a b c : ℤ) → (a -ℤ b) *ℤ c ≡ (a *ℤ c) -ℤ (b *ℤ c)
-ℤ-*ℤ a b c = let e = *ℤ--ℤ c a b in let ca = *ℤ_comm c a in let cb = *ℤ_comm c b in *ℤ_comm (a -ℤ b) c ∙ omega (arith, linear)

pub *ℤ_one : (a : ℤ) → a *ℤ pos 1 ≡ a
*ℤ_one a = omega (arith, ints)

pub one_*ℤ : (a : ℤ) → pos 1 *ℤ a ≡ a
one_*ℤ a = omega (arith, ints)

pub *ℤ_zero : (a : ℤ) → a *ℤ pos 0 ≡ pos 0
*ℤ_zero a = omega (arith, ints)

pub zero_*ℤ : (a : ℤ) → pos 0 *ℤ a ≡ pos 0
zero_*ℤ a = omega (arith, ints)

pub *ℤ_left_comm : (a b c : ℤ) → a *ℤ (b *ℤ c) ≡ b *ℤ (a *ℤ c)
*ℤ_left_comm a b c = sym (*ℤ_assoc a b c) ∙ ap (λ x. x *ℤ c) (*ℤ_comm a b) ∙ *ℤ_assoc b a c

-- the laws by which a sum is multiplied out, for `simp`
pub ruleset expanded = (*ℤ-+ℤ, +ℤ-*ℤ, *ℤ-neg, neg-*ℤ)
