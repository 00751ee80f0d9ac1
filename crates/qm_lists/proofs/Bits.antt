-- Bits of one word, as truth values.
use Rattle.std.proofs.Common.{◌≡◌, ◌≢◌, ◌==◌, ℕ, zero, suc, ◌-◌, ◌*◌, ◌%◌, ◌^◌, ◌<◌, min, max, Bool, true, false, not, cond, ◌&&◌, ◌||◌, List, map, bit_and, bit_or, count_ones, w64, refl, ap, sym, subst, ◌∙◌, arith}
use Rattle.std.specs.Int.{bit_at, bit_not, trailing_zeros}
use Rattle.std.specs.List.{count_by, range_with_len}
use Rattle.std.specs.Simd.Lanes.{mask_l}
use Rattle.std.proofs.lemmas.Nat.Bits.{bit_at_and, bit_at_or, bit_at-lt, bit_at-zero, bit_at_not, bit_at_set_same, bit_at_set_other, bit_at-trailing_zeros, same_from_bits_below}
use Rattle.std.proofs.lemmas.Simd.{bit_mask_l, ones-mask_l, mask_l-lt}
use Rattle.std.proofs.lemmas.List.FromFn.{get_or-map-range_with_len, length-map-range_with_len}
use Rattle.qm_lists.specs.Word.{has_bit}

-- a bit is 0 or 1
both_bits : (a b : ℕ) → a < 2 → b < 2 → (min a b == 1) ≡ ((a == 1) && (b == 1))
both_bits zero zero l m = refl
both_bits zero (suc zero) l m = refl
both_bits (suc zero) zero l m = refl
both_bits (suc zero) (suc zero) l m = refl
both_bits (suc (suc a)) b l m = absurd (omega arith)
both_bits a (suc (suc b)) l m = absurd (omega arith)

one_bit : (a b : ℕ) → a < 2 → b < 2 → (max a b == 1) ≡ ((a == 1) || (b == 1))
one_bit zero zero l m = refl
one_bit zero (suc zero) l m = refl
one_bit (suc zero) zero l m = refl
one_bit (suc zero) (suc zero) l m = refl
one_bit (suc (suc a)) b l m = absurd (omega arith)
one_bit a (suc (suc b)) l m = absurd (omega arith)

turned_bit : (a : ℕ) → a < 2 → (1 - a == 1) ≡ not (a == 1)
turned_bit zero l = refl
turned_bit (suc zero) l = refl
turned_bit (suc (suc a)) l = absurd (omega arith)

number_of_bit : (a : ℕ) → a < 2 → cond (a == 1) 1 0 ≡ a
number_of_bit zero l = refl
number_of_bit (suc zero) l = refl
number_of_bit (suc (suc a)) l = absurd (omega arith)

pub has_bit-and : (a b i : ℕ) → has_bit (bit_and a b) i ≡ (has_bit a i && has_bit b i)
has_bit-and a b i = ap (λ n. n == 1) (bit_at_and a b i) ∙ both_bits (bit_at a i) (bit_at b i) (bit_at-lt a i) (bit_at-lt b i)

pub has_bit-or : (a b i : ℕ) → has_bit (bit_or a b) i ≡ (has_bit a i || has_bit b i)
has_bit-or a b i = ap (λ n. n == 1) (bit_at_or a b i) ∙ one_bit (bit_at a i) (bit_at b i) (bit_at-lt a i) (bit_at-lt b i)

pub has_bit-not : (n i : ℕ) → n < 2 ^ 64 → i < 64 → has_bit (bit_not w64 n) i ≡ not (has_bit n i)
has_bit-not n i small within = ap (λ m. m == 1) (bit_at_not w64 n i small within) ∙ turned_bit (bit_at n i) (bit_at-lt n i)

pub has_bit-zero : (i : ℕ) → has_bit 0 i ≡ false
has_bit-zero i = ap (λ n. n == 1) (bit_at-zero i)

-- to set a bit
pub has_bit-set_same : (n k : ℕ) → k < 64 → has_bit (bit_or n (1 * 2 ^ k % 2 ^ 64)) k ≡ true
has_bit-set_same n k within = ap (λ m. m == 1) (bit_at_set_same w64 n k within)

pub has_bit-set_other : (n k i : ℕ) → k < 64 → i ≢ k → has_bit (bit_or n (1 * 2 ^ k % 2 ^ 64)) i ≡ has_bit n i
has_bit-set_other n k i within other = ap (λ m. m == 1) (bit_at_set_other w64 n k within i other)

-- a word that is not 0 has a bit
pub some_bit : (n : ℕ) → n < 2 ^ 64 → 0 < n → (i : ℕ) × (i < 64) × (has_bit n i ≡ true)
some_bit n small some =
    let found = bit_at-trailing_zeros w64 n some small in
    (trailing_zeros w64 n, found.0, ap (λ m. m == 1) found.1)

-- and counting the bits of a word one by one is counting its ones
word_from_bits : (n : ℕ) → n < 2 ^ 64 → mask_l (map (has_bit n) (range_with_len 0 64)) ≡ n
word_from_bits n small =
    same_from_bits_below 64 (mask_l ms) n below small same
  where
    ms : List Bool
    ms = map (has_bit n) (range_with_len 0 64)

    below : mask_l ms < 2 ^ 64
    below = subst (λ k. mask_l ms < 2 ^ k) (length-map-range_with_len (has_bit n) 0 64) (mask_l-lt ms)

    same : (i : ℕ) → i < 64 → bit_at (mask_l ms) i ≡ bit_at n i
    same i within =
        bit_mask_l ms i ∙ ap (λ b. cond b 1 0) (get_or-map-range_with_len (has_bit n) 0 64 i i false within (omega arith)) ∙ number_of_bit (bit_at n i) (bit_at-lt n i)

pub count_ones-bits : (n : ℕ) → n < 2 ^ 64 → count_ones n ≡ count_by (has_bit n) (range_with_len 0 64)
count_ones-bits n small = ap count_ones (sym (word_from_bits n small)) ∙ ones-mask_l (has_bit n) (range_with_len 0 64)
