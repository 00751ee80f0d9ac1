-- Dot products, sizes and slacks, as the code keeps their numbers.
use Rattle.std.proofs.Common.{◌≡◌, ◌≤◌, ◌*◌, ◌∙◌, ℤ, ◌+ℤ◌, ◌*ℤ◌, FitsSigned, w64, arith, lit≤, subst, unsigned_abs}
use Rattle.std.proofs.lemmas.Int.{ints}
use Rattle.qm_numbers.proofs.Bits.{kept_64}
use Rattle.qm_numbers.proofs.Kept.{kept}
use Rattle.qm_space.specs.Bounds.{normal_bound, whole_normal_bound}
use Rattle.qm_narrow.specs.inner.Turn.{IsWithin, dot_bound, size_bound, slack_bound}

-- ---- three products

module _ (a b p : ℤ) (a_small : unsigned_abs a ≤ whole_normal_bound) (b_small : unsigned_abs b ≤ normal_bound) (is : p ≡ kept w64 a *ℤ kept w64 b) where
  pub product_is : p ≡ a *ℤ b
  product_is = is ∙ (λ i. kept_64 a whole_normal_bound a_small (lit≤ tt) i *ℤ kept_64 b normal_bound b_small (lit≤ tt) i)

pub products_kept : (a b c : ℤ) → unsigned_abs a ≤ whole_normal_bound * normal_bound → unsigned_abs b ≤ whole_normal_bound * normal_bound → unsigned_abs c ≤ whole_normal_bound * normal_bound → kept w64 (kept w64 (kept w64 a +ℤ kept w64 b) +ℤ kept w64 c) ≡ (a +ℤ b) +ℤ c
products_kept a b c h k l = omega (arith, ints)

pub products_small : (a b c : ℤ) → unsigned_abs a ≤ whole_normal_bound * normal_bound → unsigned_abs b ≤ whole_normal_bound * normal_bound → unsigned_abs c ≤ whole_normal_bound * normal_bound → unsigned_abs ((a +ℤ b) +ℤ c) ≤ dot_bound
products_small a b c h k l = omega (arith, ints)

-- ---- slacks

pub slacks_kept : (a b : ℤ) → unsigned_abs a ≤ size_bound → unsigned_abs b ≤ 3 * size_bound → kept w64 (kept w64 a +ℤ kept w64 b) ≡ a +ℤ b
slacks_kept a b h k = omega (arith, ints)

pub slacks_small : (a b : ℤ) → unsigned_abs a ≤ size_bound → unsigned_abs b ≤ 3 * size_bound → unsigned_abs (a +ℤ b) ≤ slack_bound
slacks_small a b h k = omega (arith, ints)

-- ---- as sums go on

pub two_fit : (a b : ℤ) → unsigned_abs a ≤ whole_normal_bound * normal_bound → unsigned_abs b ≤ whole_normal_bound * normal_bound → FitsSigned w64 (kept w64 a +ℤ kept w64 b)
two_fit a b h k = omega (arith, ints)

pub three_fit : (a b c : ℤ) → unsigned_abs a ≤ whole_normal_bound * normal_bound → unsigned_abs b ≤ whole_normal_bound * normal_bound → unsigned_abs c ≤ whole_normal_bound * normal_bound → FitsSigned w64 (kept w64 (kept w64 a +ℤ kept w64 b) +ℤ kept w64 c)
three_fit a b c h k l = omega (arith, ints)

pub sizes_fit : (a b c : ℤ) → unsigned_abs a ≤ whole_normal_bound → unsigned_abs b ≤ whole_normal_bound → unsigned_abs c ≤ whole_normal_bound → FitsSigned w64 (kept w64 (kept w64 a +ℤ kept w64 b) +ℤ kept w64 c)
sizes_fit a b c h k l = omega (arith, ints)

pub sizes_kept : (a b c : ℤ) → unsigned_abs a ≤ whole_normal_bound → unsigned_abs b ≤ whole_normal_bound → unsigned_abs c ≤ whole_normal_bound → kept w64 (kept w64 (kept w64 a +ℤ kept w64 b) +ℤ kept w64 c) ≡ (a +ℤ b) +ℤ c
sizes_kept a b c h k l = omega (arith, ints)

pub sizes_small : (a b c : ℤ) → unsigned_abs a ≤ whole_normal_bound → unsigned_abs b ≤ whole_normal_bound → unsigned_abs c ≤ whole_normal_bound → unsigned_abs ((a +ℤ b) +ℤ c) ≤ size_bound
sizes_small a b c h k l = omega (arith, ints)

pub spread_kept : (a b : ℤ) → unsigned_abs a ≤ size_bound → unsigned_abs b ≤ size_bound → kept w64 (kept w64 a +ℤ kept w64 (kept w64 b +ℤ kept w64 b)) ≡ a +ℤ (b +ℤ b)
spread_kept a b h k = omega (arith, ints)

pub spread_small : (a b : ℤ) → unsigned_abs a ≤ size_bound → unsigned_abs b ≤ size_bound → unsigned_abs (a +ℤ (b +ℤ b)) ≤ 3 * size_bound
spread_small a b h k = omega (arith, ints)

pub within_kept : (a s : ℤ) → unsigned_abs a ≤ whole_normal_bound → IsWithin (kept w64 a) s → IsWithin a s
within_kept a s h is = subst (λ (z : ℤ). IsWithin z s) (kept_64 a whole_normal_bound h (lit≤ tt)) is
