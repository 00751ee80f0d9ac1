-- A whole number and decimals brought to one denominator, and compared with a limit.
use Rattle.std.proofs.Common.{◌≡◌, ◌<◌, ◌≤◌, ℕ, ◌+◌, ◌*◌, ◌⊎◌, inl, inr, min, ℤ, pos, negsuc, neg_ℤ, ◌*ℤ◌, suc, zero, Bool, if◌then◌else◌, sym, ◌∙◌, ap, arith, le_of_mul-le-mul_right, lt_of_mul-lt-mul_right, mul-lt-mul_of_pos_right, mul-le-mul_right, mul-pos}
use Rattle.std.proofs.lemmas.Int.{ints}
use Rattle.std.proofs.Math.IntN.{pos-*ℤ-pos, negsuc-*ℤ-pos}
use Rattle.qm_numerals.specs.Number.{Sign, missing, plus, minus, signed_by}
use Rattle.qm_numerals.specs.inner.Parts.{is_minus}

-- one number is at most the other, or above it
pub order : (a b : ℕ) → (a ≤ b) ⊎ (b < a)
order zero b = inl (omega arith)
order (suc a) zero = inr (omega arith)
order (suc a) (suc b) = elim (order a b) [ inl h ↦ inl (omega arith) | inr h ↦ inr (omega arith) ]

-- `whole` with k decimals that write `tail`, of which there are `part` units: a is ten to k, b ten to the places
pub record IsScaled (limit whole kept tail part a b : ℕ) : Type 0 where
  pub capped : kept ≡ min (limit + 1) whole
  pub same : tail * b ≡ part * a
  pub left : 0 < a
  pub right : 0 < b

kept_whole : (limit whole kept part b : ℕ) → kept ≡ min (limit + 1) whole → 0 < b → kept * b + part ≤ limit * b → kept ≡ whole
kept_whole limit whole kept part b e positive small =
    let lower : limit + 1 ≤ kept → (limit + 1) * b ≤ kept * b = λ h. mul-le-mul_right b h in
    let same : (limit + 1) * b ≡ limit * b + b = omega arith in
    let below : kept < limit + 1 = elim (order (limit + 1) kept) [ inl h ↦ absurd (let l = lower h in omega arith) | inr h ↦ h ] in
    omega arith

pub scaled_value : (limit whole kept tail part a b : ℕ) → IsScaled limit whole kept tail part a b → kept * b + part ≤ limit * b → (kept * b + part) * a ≡ (whole * a + tail) * b
scaled_value limit whole kept tail part a b s small =
    let same : kept ≡ whole = kept_whole limit whole kept part b s.capped s.right small in
    let scaled : kept * b * a ≡ whole * b * a = ap (λ (x : ℕ). x * b * a) same in
    let tails = s.same in
    omega arith

pub scaled_small : (limit whole kept tail part a b : ℕ) → IsScaled limit whole kept tail part a b → kept * b + part ≤ limit * b → whole * a + tail ≤ limit * a
scaled_small limit whole kept tail part a b s small =
    let value = scaled_value limit whole kept tail part a b s small in
    let more = mul-le-mul_right a small in
    le_of_mul-le-mul_right {k = b} (let h : (whole * a + tail) * b ≤ limit * a * b = omega arith in h) s.right

pub scaled_large : (limit whole kept tail part a b : ℕ) → IsScaled limit whole kept tail part a b → limit * b < kept * b + part → limit * a < whole * a + tail
scaled_large limit whole kept tail part a b s large = elim (order whole limit) [
  | inr over ↦ (let more : (limit + 1) * a ≤ whole * a = mul-le-mul_right a (let h : limit + 1 ≤ whole = omega arith in h) in let left = s.left in omega arith)
  | inl under ↦
      let capped = s.capped in
      let same : kept ≡ whole = omega arith in
      let scaled : kept * b * a ≡ whole * b * a = ap (λ (x : ℕ). x * b * a) same in
      let tails = s.same in
      let more = mul-lt-mul_of_pos_right large s.left in
      lt_of_mul-lt-mul_right b (let h : limit * a * b < (whole * a + tail) * b = omega arith in h)
]

-- ---- signs

times_negative : (n k m : ℕ) → n * k ≡ m → neg_ℤ (pos n) *ℤ pos k ≡ neg_ℤ (pos m)
times_negative zero k m e = pos-*ℤ-pos zero k ∙ (let z : m ≡ 0 = omega arith in omega (arith, ints))
times_negative (suc n) k m e = negsuc-*ℤ-pos n k ∙ ap (λ (x : ℕ). neg_ℤ (pos x)) e

pub signed_times : (s : Sign) (n k m : ℕ) → n * k ≡ m → signed_by s n *ℤ pos k ≡ signed_by s m
signed_times missing n k m e = pos-*ℤ-pos n k ∙ ap pos e
signed_times plus n k m e = pos-*ℤ-pos n k ∙ ap pos e
signed_times minus n k m e = times_negative n k m e

pub with_sign_is : (s : Sign) (negative : Bool) (z : ℤ) (n : ℕ) → negative ≡ is_minus s → z ≡ (if negative then neg_ℤ (pos n) else pos n) → z ≡ signed_by s n
with_sign_is missing negative z n e f = f ∙ ap (λ (b : Bool). if b then neg_ℤ (pos n) else pos n) e
with_sign_is plus negative z n e f = f ∙ ap (λ (b : Bool). if b then neg_ℤ (pos n) else pos n) e
with_sign_is minus negative z n e f = f ∙ ap (λ (b : Bool). if b then neg_ℤ (pos n) else pos n) e

same_from_times : (m n k : ℕ) → 0 < k → m * k ≡ n * k → m ≡ n
same_from_times m n k positive e =
    let up = le_of_mul-le-mul_right {m = m} {n = n} (let h : m * k ≤ n * k = omega arith in h) positive in
    let down = le_of_mul-le-mul_right {m = n} {n = m} (let h : n * k ≤ m * k = omega arith in h) positive in
    omega arith

no_negative_same : (m n k : ℕ) → 0 < k → pos (m * k) ≡ neg_ℤ (pos (suc n * k)) → ⊥
no_negative_same m n k positive e = let more : 0 < suc n * k = mul-pos (omega arith) positive in omega (arith, ints)

pub cancel_times : (a b : ℤ) (k : ℕ) → 0 < k → a *ℤ pos k ≡ b *ℤ pos k → a ≡ b
cancel_times (pos m) (pos n) k positive e =
    let products : pos (m * k) ≡ pos (n * k) = sym (pos-*ℤ-pos m k) ∙ e ∙ pos-*ℤ-pos n k in
    ap pos (same_from_times m n k positive (cc))
cancel_times (pos m) (negsuc n) k positive e =
    absurd (no_negative_same m n k positive (sym (pos-*ℤ-pos m k) ∙ e ∙ negsuc-*ℤ-pos n k))
cancel_times (negsuc m) (pos n) k positive e =
    absurd (no_negative_same n m k positive (sym (pos-*ℤ-pos n k) ∙ sym e ∙ negsuc-*ℤ-pos m k))
cancel_times (negsuc m) (negsuc n) k positive e =
    let products : neg_ℤ (pos (suc m * k)) ≡ neg_ℤ (pos (suc n * k)) = sym (negsuc-*ℤ-pos m k) ∙ e ∙ negsuc-*ℤ-pos n k in
    let same : suc m ≡ suc n = same_from_times (suc m) (suc n) k positive (omega (arith, ints)) in
    ap negsuc (cc)
