-- The whole numbers near a fraction.
use Rattle.std.proofs.Common.{◌≡◌, ℕ, suc, ◌+◌, ◌*◌, ◌≤◌, ◌<◌, ℤ, pos, negsuc, ◌+ℤ◌, ◌-ℤ◌, ◌*ℤ◌, neg_ℤ, ◌≤ℤ◌, ◌<ℤ◌, ap, refl, sym, subst, ◌∙◌, arith, unsigned_abs, mul-le-mul, ⊎_elim}
use Rattle.std.specs.Int.{int_div_euclid}
use Rattle.std.proofs.lemmas.Bool.{cases_lt}
use Rattle.std.proofs.lemmas.Int.{ints}
use Rattle.std.proofs.Math.IntN.{*ℤ_comm}
use Rattle.qm_numbers.specs.FloorDivision.{floor_div}
use Rattle.qm_numbers.proofs.IntegerProducts.{linear, *ℤ-+ℤ, +ℤ-*ℤ, -ℤ-*ℤ, neg-*ℤ, one_*ℤ}
use Rattle.qm_numbers.proofs.Signs.{cancel_less, cancel_at_most, within_abs, abs_at_most, abs_neg, abs_product}
use Rattle.qm_numbers.proofs.Divisors.{floor_div_is}
use Rattle.qm_numbers.specs.Rounding.{IsRoundedDown, IsRoundedUp, IsNearest}

-- ---- down

pub down_is : (a b : ℤ) → pos 0 <ℤ b → IsRoundedDown a b (int_div_euclid a b)
unfolding floor_div
down_is a b h = floor_div_is a b h

-- the bounds that an absolute value of at most n times another sets
bounds : (a b : ℤ) (n : ℕ) → pos 0 <ℤ b → unsigned_abs a ≤ n * unsigned_abs b → ((neg_ℤ (pos n) *ℤ b) ≤ℤ a) × (a ≤ℤ (pos n *ℤ b))
bounds a (pos m) n h k =
    let w = within_abs a (n * m) k in
    let e : pos n *ℤ pos m ≡ pos (n * m) = refl in
    let f = neg-*ℤ (pos n) (pos m) in
    let low : neg_ℤ (pos (n * m)) ≤ℤ a = w.0 in
    let high : a ≤ℤ pos (n * m) = w.1 in
    (subst (λ (z : ℤ). z ≤ℤ a) (sym f) low, high)
bounds a (negsuc m) n h k = absurd (omega (arith, ints))

pub down_small : (a b q : ℤ) (n : ℕ) → pos 0 <ℤ b → unsigned_abs a ≤ n * unsigned_abs b → IsRoundedDown a b q → unsigned_abs q ≤ n
down_small a b q n h k r =
    let w = bounds a b n h k in
    let low = w.0 in let high = w.1 in
    let at_most = r.at_most in let next = r.next in
    let e = *ℤ_comm q b in let f = *ℤ_comm (pos n) b in
    let g = *ℤ_comm (neg_ℤ (pos n)) b in let i = *ℤ_comm (q +ℤ pos 1) b in
    let upper : q ≤ℤ pos n = cancel_at_most b q (pos n) h (omega (arith, linear)) in
    let lower : neg_ℤ (pos n) <ℤ (q +ℤ pos 1) = cancel_less b (neg_ℤ (pos n)) (q +ℤ pos 1) h (omega (arith, linear)) in
    abs_at_most q n (omega (arith, ints)) upper

-- ---- up

pub up_from_down : (a b q : ℤ) → IsRoundedDown (neg_ℤ a) b q → IsRoundedUp a b (neg_ℤ q)
up_from_down a b q r =
    let at_most = r.at_most in let next = r.next in
    let e = +ℤ-*ℤ q (pos 1) b in let o = one_*ℤ b in
    let n = neg-*ℤ q b in let f = -ℤ-*ℤ (neg_ℤ q) (pos 1) b in
    record { at_least = omega (arith, linear); previous = omega (arith, linear) }

down_from_up : (a b q : ℤ) → IsRoundedUp a b q → IsRoundedDown (neg_ℤ a) b (neg_ℤ q)
down_from_up a b q r =
    let at_least = r.at_least in let previous = r.previous in
    let e = +ℤ-*ℤ (neg_ℤ q) (pos 1) b in let o = one_*ℤ b in
    let n = neg-*ℤ q b in let f = -ℤ-*ℤ q (pos 1) b in
    record { at_most = omega (arith, linear); next = omega (arith, linear) }

pub up_small : (a b q : ℤ) (n : ℕ) → pos 0 <ℤ b → unsigned_abs a ≤ n * unsigned_abs b → IsRoundedUp a b q → unsigned_abs q ≤ n
up_small a b q n h k r =
    let turned : unsigned_abs (neg_ℤ a) ≤ n * unsigned_abs b = subst (λ (m : ℕ). m ≤ n * unsigned_abs b) (sym (abs_neg a)) k in
    subst (λ (m : ℕ). m ≤ n) (abs_neg q) (down_small (neg_ℤ a) b (neg_ℤ q) n h turned (down_from_up a b q r))

-- ---- nearest

-- with p for the multiple of the denominator
half_near : (a b p : ℤ) → pos 0 ≤ℤ a → pos 0 <ℤ b → (p +ℤ p) ≤ℤ ((a +ℤ a) +ℤ b) → ((a +ℤ a) +ℤ b) <ℤ ((p +ℤ p) +ℤ (b +ℤ b)) → 2 * unsigned_abs (a -ℤ p) ≤ unsigned_abs b
half_near a b p x y h k = omega (arith, ints)

half_away : (a b p : ℤ) → pos 0 ≤ℤ a → pos 0 <ℤ b → (p +ℤ p) ≤ℤ ((a +ℤ a) +ℤ b) → ((a +ℤ a) +ℤ b) <ℤ ((p +ℤ p) +ℤ (b +ℤ b)) → 2 * unsigned_abs (a -ℤ p) ≡ unsigned_abs b → unsigned_abs a < unsigned_abs p
half_away a b p x y h k e = omega (arith, ints)

-- twice the fraction and one more, over two, rounded down
pub nearest_is : (a b q : ℤ) → pos 0 ≤ℤ a → pos 0 <ℤ b → IsRoundedDown ((a +ℤ a) +ℤ b) (b +ℤ b) q → IsNearest a b q
nearest_is a b q x y r =
    let at_most = r.at_most in let next = r.next in
    let e = +ℤ-*ℤ q (pos 1) (b +ℤ b) in let o = one_*ℤ (b +ℤ b) in let f = *ℤ-+ℤ q b b in
    let low : ((q *ℤ b) +ℤ (q *ℤ b)) ≤ℤ ((a +ℤ a) +ℤ b) = omega (arith, linear) in
    let high : ((a +ℤ a) +ℤ b) <ℤ (((q *ℤ b) +ℤ (q *ℤ b)) +ℤ (b +ℤ b)) = omega (arith, linear) in
    record { near = half_near a b (q *ℤ b) x y low high; away = half_away a b (q *ℤ b) x y low high }

pub nearest_negated : (a b q : ℤ) → IsNearest (neg_ℤ a) b q → IsNearest a b (neg_ℤ q)
nearest_negated a b q r =
    let n = neg-*ℤ q b in
    let d : unsigned_abs (neg_ℤ a -ℤ (q *ℤ b)) ≡ unsigned_abs (a -ℤ (neg_ℤ q *ℤ b)) = rw n (apart a (q *ℤ b)) in
    let s : unsigned_abs (neg_ℤ q *ℤ b) ≡ unsigned_abs (q *ℤ b) = ap unsigned_abs n ∙ abs_neg (q *ℤ b) in
    let near = r.near in let away = r.away in
    let t = abs_neg a in
    record { near = omega arith; away = λ e. let l = away (omega arith) in omega arith }
  where
    apart : (a p : ℤ) → unsigned_abs (neg_ℤ a -ℤ p) ≡ unsigned_abs (a -ℤ neg_ℤ p)
    apart a p = omega (arith, ints)

between : (a p : ℤ) → unsigned_abs p ≤ unsigned_abs a + unsigned_abs (a -ℤ p)
between a p = omega (arith, ints)

no_more : (m n b : ℕ) → 0 < b → 2 * (m * b) ≤ 2 * (n * b) + b → m ≤ n
no_more m n b h k = ⊎_elim (λ l. let p : suc n * b ≤ m * b = mul-le-mul l (omega arith) in absurd (omega arith)) (λ l. l) (cases_lt n m)

pub nearest_small : (a b q : ℤ) (n : ℕ) → pos 0 <ℤ b → unsigned_abs a ≤ n * unsigned_abs b → IsNearest a b q → unsigned_abs q ≤ n
nearest_small a b q n h k r =
    let s = between a (q *ℤ b) in
    let p = abs_product q b in
    let near = r.near in
    let positive : 0 < unsigned_abs b = omega (arith, ints) in
    no_more (unsigned_abs q) n (unsigned_abs b) positive (omega arith)

-- the denominators and numerators as the code makes them
pub twice_is : (b : ℤ) → pos 2 *ℤ b ≡ b +ℤ b
twice_is b = omega (arith, ints)
