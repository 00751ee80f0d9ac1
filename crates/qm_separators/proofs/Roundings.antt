-- The whole number near a fraction is one alone, and the same however the fraction is written.
use Rattle.std.proofs.Common.{◌≡◌, ℕ, ◌*◌, ◌≤◌, ◌<◌, ℤ, pos, neg_ℤ, ◌+ℤ◌, ◌-ℤ◌, ◌*ℤ◌, ◌≤ℤ◌, ◌<ℤ◌, ap, sym, ◌∙◌, arith, unsigned_abs, inl, inr, ⊎_elim}
use Rattle.std.specs.Int.{int_div_euclid}
use Rattle.std.proofs.lemmas.Int.{ints}
use Rattle.std.proofs.lemmas.Bool.{cases_lt}
use Rattle.std.proofs.Math.Nat.{mul-le-mul_left, le_of_mul-le-mul_left}
use Rattle.std.proofs.Math.IntN.{*ℤ_comm}
use Rattle.qm_numbers.specs.Rounding.{IsRoundedDown, IsRoundedUp, IsNearest}
use Rattle.qm_numbers.proofs.IntegerProducts.{linear, *ℤ_assoc, +ℤ-*ℤ, -ℤ-*ℤ, neg-*ℤ, one_*ℤ}
use Rattle.qm_numbers.proofs.Signs.{by_order, by_least, product_not_negative, times_at_most, cancel_less, cancel_at_most, abs_product}
use Rattle.qm_numbers.proofs.Roundings.{down_is, up_from_down, nearest_is, nearest_negated}
use Rattle.qm_separators.proofs.Comparisons.{times_less}
use Rattle.qm_separators.specs.WholePoints.{IsRoundedEitherWay}

-- ---- one alone

-- the greater of two numbers, times a positive one, is greater by at least that
gap : (u q r : ℤ) → pos 0 <ℤ u → q <ℤ r → ((q *ℤ u) +ℤ u) ≤ℤ (r *ℤ u)
gap u q r h l =
    let m = times_at_most u (q +ℤ pos 1) r (omega (arith, linear)) (omega (arith, linear)) in
    let a = *ℤ_comm u (q +ℤ pos 1) in let b = *ℤ_comm u r in let c = +ℤ-*ℤ q (pos 1) u in let d = one_*ℤ u in
    omega (arith, linear)

pub one_up : (a b p q : ℤ) → pos 0 <ℤ b → IsRoundedUp a b p → IsRoundedUp a b q → p ≡ q
one_up a b p q h x y = by_order p q
    (λ l. let g = gap b p q h l in let c = -ℤ-*ℤ q (pos 1) b in let d = one_*ℤ b in let s = x.at_least in let t = y.previous in absurd (omega (arith, linear)))
    (λ e. e)
    (λ l. let g = gap b q p h l in let c = -ℤ-*ℤ p (pos 1) b in let d = one_*ℤ b in let s = y.at_least in let t = x.previous in absurd (omega (arith, linear)))

-- with m and n for the multiples of two different numbers: both can only be half away, on both sides of 0
halves : (o u m n : ℤ) → pos 0 <ℤ u → (m +ℤ u) ≤ℤ n → 2 * unsigned_abs (o -ℤ m) ≤ unsigned_abs u → 2 * unsigned_abs (o -ℤ n) ≤ unsigned_abs u → (2 * unsigned_abs (o -ℤ m) ≡ unsigned_abs u) × (2 * unsigned_abs (o -ℤ n) ≡ unsigned_abs u)
halves o u m n h l x y = (omega (arith, ints), omega (arith, ints))

apart : (o u m n : ℤ) → pos 0 <ℤ u → (m +ℤ u) ≤ℤ n → 2 * unsigned_abs (o -ℤ m) ≤ unsigned_abs u → 2 * unsigned_abs (o -ℤ n) ≤ unsigned_abs u → unsigned_abs o < unsigned_abs m → unsigned_abs o < unsigned_abs n → (neg_ℤ u <ℤ m) × (m <ℤ pos 0)
apart o u m n h l x y s t = (omega (arith, ints), omega (arith, ints))

no_multiple_between : (q u : ℤ) → pos 0 <ℤ u → neg_ℤ u <ℤ (q *ℤ u) → (q *ℤ u) <ℤ pos 0 → ⊥
no_multiple_between q u h low high = by_least q (pos 0)
    (λ below. let g = times_at_most u q (neg_ℤ (pos 1)) (omega (arith, linear)) (omega (arith, linear)) in let a = *ℤ_comm u q in let b = *ℤ_comm u (neg_ℤ (pos 1)) in let c = neg-*ℤ (pos 1) u in let d = one_*ℤ u in absurd (omega (arith, linear)))
    (λ not. let p = product_not_negative q u not (omega (arith, linear)) in absurd (omega (arith, linear)))

nearest_not_less : (o u q r : ℤ) → pos 0 <ℤ u → IsNearest o u q → IsNearest o u r → q <ℤ r → ⊥
nearest_not_less o u q r h x y l =
    let g = gap u q r h l in
    let e = halves o u (q *ℤ u) (r *ℤ u) h g x.near y.near in
    let c = apart o u (q *ℤ u) (r *ℤ u) h g x.near y.near (x.away e.0) (y.away e.1) in
    no_multiple_between q u h c.0 c.1

pub one_nearest : (o u q r : ℤ) → pos 0 <ℤ u → IsNearest o u q → IsNearest o u r → q ≡ r
one_nearest o u q r h x y = by_order q r (λ l. absurd (nearest_not_less o u q r h x y l)) (λ e. e) (λ l. absurd (nearest_not_less o u r q h y x l))

-- ---- there is one

pub down : (a b : ℤ) → pos 0 <ℤ b → (q : ℤ) × IsRoundedDown a b q
down a b h = (int_div_euclid a b, down_is a b h)

pub up : (a b : ℤ) → pos 0 <ℤ b → (q : ℤ) × IsRoundedUp a b q
up a b h = let d = down (neg_ℤ a) b h in (neg_ℤ d.0, up_from_down a b d.0 d.1)

pub nearest : (a b : ℤ) → pos 0 <ℤ b → (q : ℤ) × IsNearest a b q
nearest a b h = by_least a (pos 0)
    (λ below. let d = of_positive (neg_ℤ a) (omega (arith, linear)) in (neg_ℤ d.0, nearest_negated a b d.0 d.1))
    (λ not. of_positive a not)
  where
    of_positive : (c : ℤ) → pos 0 ≤ℤ c → (q : ℤ) × IsNearest c b q
    of_positive c l = let d = down ((c +ℤ c) +ℤ b) (b +ℤ b) (omega (arith, linear)) in (d.0, nearest_is c b d.0 l h d.1)

-- ---- the same for the same fraction

module _ (o u p v q : ℤ) (u_some : pos 0 <ℤ u) (v_some : pos 0 <ℤ v) (same : o *ℤ v ≡ p *ℤ u) where
  -- a bound by a multiple of the denominator
  at_most_too : (k : ℤ) → (k *ℤ u) ≤ℤ o → (k *ℤ v) ≤ℤ p
  at_most_too k l =
      let m = times_at_most v (k *ℤ u) o (omega (arith, linear)) l in
      let a = *ℤ_comm v (k *ℤ u) in let b = *ℤ_comm v o in
      let c = *ℤ_assoc k u v in let d = ap (λ z. k *ℤ z) (*ℤ_comm u v) in let e = *ℤ_assoc k v u in
      let f = *ℤ_comm u (k *ℤ v) in let g = *ℤ_comm u p in
      cancel_at_most u (k *ℤ v) p u_some (omega (arith, linear))

  less_too : (k : ℤ) → o <ℤ (k *ℤ u) → p <ℤ (k *ℤ v)
  less_too k l =
      let m = times_less v o (k *ℤ u) v_some l in
      let a = *ℤ_comm v (k *ℤ u) in let b = *ℤ_comm v o in
      let c = *ℤ_assoc k u v in let d = ap (λ z. k *ℤ z) (*ℤ_comm u v) in let e = *ℤ_assoc k v u in
      let f = *ℤ_comm u (k *ℤ v) in let g = *ℤ_comm u p in
      cancel_less u p (k *ℤ v) u_some (omega (arith, linear))

  at_least_too : (k : ℤ) → o ≤ℤ (k *ℤ u) → p ≤ℤ (k *ℤ v)
  at_least_too k l =
      let m = times_at_most v o (k *ℤ u) (omega (arith, linear)) l in
      let a = *ℤ_comm v (k *ℤ u) in let b = *ℤ_comm v o in
      let c = *ℤ_assoc k u v in let d = ap (λ z. k *ℤ z) (*ℤ_comm u v) in let e = *ℤ_assoc k v u in
      let f = *ℤ_comm u (k *ℤ v) in let g = *ℤ_comm u p in
      cancel_at_most u p (k *ℤ v) u_some (omega (arith, linear))

  more_too : (k : ℤ) → (k *ℤ u) <ℤ o → (k *ℤ v) <ℤ p
  more_too k l =
      let m = times_less v (k *ℤ u) o v_some l in
      let a = *ℤ_comm v (k *ℤ u) in let b = *ℤ_comm v o in
      let c = *ℤ_assoc k u v in let d = ap (λ z. k *ℤ z) (*ℤ_comm u v) in let e = *ℤ_assoc k v u in
      let f = *ℤ_comm u (k *ℤ v) in let g = *ℤ_comm u p in
      cancel_less u (k *ℤ v) p u_some (omega (arith, linear))

  pub down_too : IsRoundedDown o u q → IsRoundedDown p v q
  down_too r = record { at_most = at_most_too q r.at_most; next = less_too (q +ℤ pos 1) r.next }

  pub up_too : IsRoundedUp o u q → IsRoundedUp p v q
  up_too r = record { at_least = at_least_too q r.at_least; previous = more_too (q -ℤ pos 1) r.previous }

  pub either_too : IsRoundedEitherWay o u q → IsRoundedEitherWay p v q
  either_too r = ⊎_elim (λ d. inl (down_too d)) (λ e. inr (up_too e)) r

-- ---- the nearest is the same for the same fraction

-- natural numbers in the ratio of two others
module _ (a b u v : ℕ) (u_some : 0 < u) (v_some : 0 < v) (same : a * v ≡ b * u) where
  half_too : 2 * a ≤ u → 2 * b ≤ v
  half_too l = let m : v * (2 * a) ≤ v * u = mul-le-mul_left v l in le_of_mul-le-mul_left {m = 2 * b} {n = v} {k = u} (omega arith) u_some

  half_back : 2 * b ≡ v → 2 * a ≡ u
  half_back e = omega (arith, low, high)
    where
      low : 2 * a ≤ u
      low = let m : u * (2 * b) ≤ u * v = mul-le-mul_left u (omega arith) in le_of_mul-le-mul_left {m = 2 * a} {n = u} {k = v} (omega arith) v_some

      high : u ≤ 2 * a
      high = let m : u * v ≤ u * (2 * b) = mul-le-mul_left u (omega arith) in le_of_mul-le-mul_left {m = u} {n = 2 * a} {k = v} (omega arith) v_some

-- of two such pairs the greater of the one is the greater of the other
less_in_ratio : (a b c d u v : ℕ) → 0 < u → 0 < v → a * v ≡ b * u → c * v ≡ d * u → a < c → b < d
less_in_ratio a b c d u v u_some v_some first second l = ⊎_elim
    (λ below. below)
    (λ not. let m : u * d ≤ u * b = mul-le-mul_left u not in let n : c ≤ a = le_of_mul-le-mul_left {m = c} {n = a} {k = v} (omega arith) v_some in absurd (omega arith))
    (cases_lt b d)

module _ (o u p v q : ℤ) (u_some : pos 0 <ℤ u) (v_some : pos 0 <ℤ v) (same : o *ℤ v ≡ p *ℤ u) where
  size_of : (z : ℤ) → pos 0 <ℤ z → 0 < unsigned_abs z
  size_of z h = omega (arith, ints)

  sizes : (a b : ℤ) → a *ℤ v ≡ b *ℤ u → unsigned_abs a * unsigned_abs v ≡ unsigned_abs b * unsigned_abs u
  sizes a b e = sym (abs_product a v) ∙ ap unsigned_abs e ∙ abs_product b u

  multiple : (q *ℤ u) *ℤ v ≡ (q *ℤ v) *ℤ u
  multiple = *ℤ_assoc q u v ∙ ap (λ z. q *ℤ z) (*ℤ_comm u v) ∙ sym (*ℤ_assoc q v u)

  difference : (o -ℤ (q *ℤ u)) *ℤ v ≡ (p -ℤ (q *ℤ v)) *ℤ u
  difference = let a = -ℤ-*ℤ o (q *ℤ u) v in let b = -ℤ-*ℤ p (q *ℤ v) u in let c = multiple in omega (arith, linear)

  pub nearest_too : IsNearest o u q → IsNearest p v q
  nearest_too r = record {
    near = half_too (unsigned_abs (o -ℤ (q *ℤ u))) (unsigned_abs (p -ℤ (q *ℤ v))) (unsigned_abs u) (unsigned_abs v) (size_of u u_some) (size_of v v_some) (sizes (o -ℤ (q *ℤ u)) (p -ℤ (q *ℤ v)) difference) r.near;
    away = λ e. less_in_ratio (unsigned_abs o) (unsigned_abs p) (unsigned_abs (q *ℤ u)) (unsigned_abs (q *ℤ v)) (unsigned_abs u) (unsigned_abs v) (size_of u u_some) (size_of v v_some) (sizes o p same) (sizes (q *ℤ u) (q *ℤ v) multiple)
        (r.away (half_back (unsigned_abs (o -ℤ (q *ℤ u))) (unsigned_abs (p -ℤ (q *ℤ v))) (unsigned_abs u) (unsigned_abs v) (size_of u u_some) (size_of v v_some) (sizes (o -ℤ (q *ℤ u)) (p -ℤ (q *ℤ v)) difference) e));
  }
