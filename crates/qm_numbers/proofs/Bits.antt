-- What numbers of so many bits hold: the number itself, where it fits.
use Rattle.std.proofs.Common.{◌≡◌, ◌≤◌, ◌<◌, ◌*◌, ◌^◌, ℕ, ℤ, pos, neg_ℤ, ◌-ℤ◌, FitsSigned, to_z, of_z, w32, w64, unsigned_abs, arith, refl, ap, sym, ◌∙◌}
use mir.Syntax.{w128}
use Rattle.std.proofs.lemmas.Int.{ints}

-- ---- a number

pub kept_32 : (z : ℤ) (n : ℕ) → unsigned_abs z ≤ n → n ≤ 2 ^ 30 → to_z w32 (of_z w32 z) ≡ z
kept_32 z n h small = omega (arith, ints)

pub kept_64 : (z : ℤ) (n : ℕ) → unsigned_abs z ≤ n → n ≤ 2 ^ 62 → to_z w64 (of_z w64 z) ≡ z
kept_64 z n h small = omega (arith, ints)

pub kept_128 : (z : ℤ) (n : ℕ) → unsigned_abs z ≤ n → n ≤ 3 * 2 ^ 125 → to_z w128 (of_z w128 z) ≡ z
kept_128 z n h small = omega (arith, ints)

-- ---- what the code's `-z` gives

pub negated_32 : (z : ℤ) (n : ℕ) → unsigned_abs z ≤ n → n ≤ 2 ^ 30 → to_z w32 (of_z w32 (pos 0 -ℤ to_z w32 (of_z w32 z))) ≡ neg_ℤ z
negated_32 z n h small = omega (arith, ints)

pub negated_64 : (z : ℤ) (n : ℕ) → unsigned_abs z ≤ n → n ≤ 2 ^ 62 → to_z w64 (of_z w64 (pos 0 -ℤ to_z w64 (of_z w64 z))) ≡ neg_ℤ z
negated_64 z n h small = omega (arith, ints)

pub negated_128 : (z : ℤ) → unsigned_abs z < 2 ^ 127 → to_z w128 (of_z w128 (pos 0 -ℤ to_z w128 (of_z w128 z))) ≡ neg_ℤ z
negated_128 z h = omega (arith, ints)

-- ---- what the code's test `z == 0` says

pub zero_from_bits : (z : ℤ) (n : ℕ) → unsigned_abs z ≤ n → n ≤ 3 * 2 ^ 125 → of_z w128 z ≡ 0 → z ≡ pos 0
zero_from_bits z n h small e = let k = kept_128 z n h small in omega (arith, ints)

pub bits_of_zero : (z : ℤ) → z ≡ pos 0 → of_z w128 z ≡ 0
bits_of_zero z e = rw e refl

-- ---- what a cast to fewer bits gives

pub narrowed_64 : (z : ℤ) → unsigned_abs z ≤ 2 ^ 44 → to_z w64 (of_z w64 (to_z w128 (of_z w128 z))) ≡ z
narrowed_64 z h = omega (arith, ints)

pub narrowed_32 : (z : ℤ) → unsigned_abs z ≤ 65536 → to_z w32 (of_z w32 (to_z w64 (of_z w64 z))) ≡ z
narrowed_32 z h = omega (arith, ints)

pub fits_32 : (z : ℤ) → unsigned_abs z ≤ 65536 → FitsSigned w32 (to_z w64 (of_z w64 z))
fits_32 z h = omega (arith, ints)

-- ---- what the code's test that a number of 32 bits is some other says

pub same_from_bits_32 : (z k : ℤ) (n : ℕ) → unsigned_abs z ≤ n → unsigned_abs k ≤ n → n ≤ 2 ^ 30 → of_z w32 z ≡ of_z w32 k → z ≡ k
same_from_bits_32 z k n h g small e = sym (kept_32 z n h small) ∙ ap (λ b. to_z w32 b) e ∙ kept_32 k n g small
