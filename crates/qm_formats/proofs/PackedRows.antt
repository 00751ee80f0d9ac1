-- The bits of a row as bytes, and back.
use Rattle.std.proofs.Common.{◌≡◌, ◌<◌, ◌≤◌, ℕ, zero, suc, ◌+◌, ◌-◌, ◌*◌, ◌/◌, ◌%◌, ◌^◌, Bool, true, false, cond, eqb, List, length, take, drop, get_or, refl, sym, ap, subst, ◌∙◌, arith, inl, inr}
use Rattle.std.specs.Int.{bit_at}
use Rattle.std.proofs.lemmas.Bool.{cases_lt, lt-ltb, ltb-true}
use Rattle.std.proofs.lemmas.List.{ext_get_or, get_or-take, get_or-drop, get_or_past, length-take, length-drop}
use Rattle.std.proofs.lemmas.List.FromFn.{get_or-map-range_with_len, length-map-range_with_len}
use Rattle.std.proofs.lemmas.Nat.{pow_pos, pow_below}
use Rattle.std.proofs.lemmas.Nat.Bits.{same_from_bits_below, bit_at-lt, bit_at_above}
use Rattle.std.proofs.lemmas.Simd.{bit_mask_l, mask_l-lt}
use Rattle.qm_formats.specs.Fields.{AreBytes}
use Rattle.qm_formats.specs.RowBits.{row_width, row_byte, packed, unpacked, is_clear_past}

pow_le : (a b : ℕ) → a ≤ b → 2 ^ a ≤ 2 ^ b
pow_le a b le =
    elim (cases_lt a b) [
      | inl less ↦ omega (arith, pow_below a b less)
      | inr more ↦ let same : a ≡ b = omega arith in subst (λ (n : ℕ). 2 ^ a ≤ 2 ^ n) same (omega arith)
    ]

-- a bit of a byte of a row is one of its places
pub row_byte-bit : (row : List Bool) (k j : ℕ) → j < 8 → bit_at (row_byte row k) j ≡ cond (get_or row (8 * k + j) false) 1 0
row_byte-bit row k j within =
    bit_mask_l (take 8 (drop (8 * k) row)) j
    ∙ ap (λ (b : Bool). cond b 1 0) (get_or-take 8 (drop (8 * k) row) j false within ∙ get_or-drop (8 * k) row j false)

pub row_byte-below : (row : List Bool) (k n : ℕ) → length row - 8 * k ≤ n → row_byte row k < 2 ^ n
row_byte-below row k n few =
    let part = take 8 (drop (8 * k) row) in
    let bound = mask_l-lt part in
    let long : length part ≤ n = omega (arith, length-take 8 (drop (8 * k) row), length-drop (8 * k) row, few) in
    omega (arith, bound, pow_le (length part) n long)

pub row_byte-byte : (row : List Bool) (k : ℕ) → row_byte row k < 256
row_byte-byte row k =
    let part = take 8 (drop (8 * k) row) in
    let long : length part ≤ 8 = omega (arith, length-take 8 (drop (8 * k) row)) in
    omega (arith, mask_l-lt part, pow_le (length part) 8 long)

pub length-packed : (row : List Bool) → length (packed row) ≡ row_width (length row)
unfolding packed
length-packed row = length-map-range_with_len (row_byte row) 0 (row_width (length row))

pub get_or-packed : (row : List Bool) (k : ℕ) → k < row_width (length row) → get_or (packed row) k 0 ≡ row_byte row k
unfolding packed
get_or-packed row k within = get_or-map-range_with_len (row_byte row) 0 (row_width (length row)) k k 0 within (omega arith)

pub packed-bytes : (row : List Bool) → AreBytes (packed row)
packed-bytes row i =
    elim (cases_lt i (row_width (length row))) [
      | inl less ↦ rw (get_or-packed row i less) (row_byte-byte row i)
      | inr more ↦ rw (get_or_past (packed row) i 0 (omega (arith, length-packed row, more))) (omega arith)
    ]

pub packed-clear : (row : List Bool) → is_clear_past (length row) (packed row) ≡ true
unfolding is_clear_past
packed-clear row =
    let n = length row in
    let past = n % 8 in
    lt-ltb (get_or (packed row) (n / 8) 0) (2 ^ past) (
    elim (cases_lt (n / 8) (row_width n)) [
      | inl less ↦ rw (get_or-packed row (n / 8) less) (row_byte-below row (n / 8) past (omega arith))
      | inr more ↦ rw (get_or_past (packed row) (n / 8) 0 (omega (arith, length-packed row, more))) (pow_pos past)
    ])

bit_test : (b : Bool) → eqb (cond b 1 0) 1 ≡ b
bit_test true = refl
bit_test false = refl

pub test_bit : (n i : ℕ) → cond (eqb (bit_at n i) 1) 1 0 ≡ bit_at n i
test_bit n i = number (bit_at n i) (bit_at-lt n i)
  where
    number : (bit : ℕ) → bit < 2 → cond (eqb bit 1) 1 0 ≡ bit
    number zero less = refl
    number (suc zero) less = refl
    number (suc (suc bit)) less = absurd (omega arith)

pub length-unpacked : (places : ℕ) (bytes : List ℕ) → length (unpacked places bytes) ≡ places
unfolding unpacked
length-unpacked places bytes = length-map-range_with_len (λ i. eqb (bit_at (get_or bytes (i / 8) 0) (i % 8)) 1) 0 places

pub get_or-unpacked : (places : ℕ) (bytes : List ℕ) (i : ℕ) → i < places → get_or (unpacked places bytes) i false ≡ eqb (bit_at (get_or bytes (i / 8) 0) (i % 8)) 1
unfolding unpacked
get_or-unpacked places bytes i within = get_or-map-range_with_len (λ i. eqb (bit_at (get_or bytes (i / 8) 0) (i % 8)) 1) 0 places i i false within (omega arith)

pub unpacked-packed : (row : List Bool) → unpacked (length row) (packed row) ≡ row
unpacked-packed row =
    ext_get_or false (unpacked (length row) (packed row)) row (length-unpacked (length row) (packed row)) (λ i within.
    let less : i < length row = omega (arith, within, length-unpacked (length row) (packed row)) in
    let there : i / 8 < row_width (length row) = omega arith in
    let place : 8 * (i / 8) + i % 8 ≡ i = omega arith in
    get_or-unpacked (length row) (packed row) i less
    ∙ ap (λ (byte : ℕ). eqb (bit_at byte (i % 8)) 1) (get_or-packed row (i / 8) there)
    ∙ ap (λ (bit : ℕ). eqb bit 1) (row_byte-bit row (i / 8) (i % 8) (omega arith))
    ∙ bit_test (get_or row (8 * (i / 8) + i % 8) false)
    ∙ ap (λ (k : ℕ). get_or row k false) place)

-- the bits of bytes that have none past the places
same_bit : (places : ℕ) (bytes : List ℕ) (k j : ℕ) → j < 8 → k < row_width places → get_or bytes (places / 8) 0 < 2 ^ (places % 8) → cond (get_or (unpacked places bytes) (8 * k + j) false) 1 0 ≡ bit_at (get_or bytes k 0) j
same_bit places bytes k j below few clear_past =
    elim (cases_lt (8 * k + j) places) [
      | inl less ↦
          let byte : (8 * k + j) / 8 ≡ k = omega arith in
          let bit : (8 * k + j) % 8 ≡ j = omega arith in
          ap (λ (b : Bool). cond b 1 0) (get_or-unpacked places bytes (8 * k + j) less)
          ∙ test_bit (get_or bytes ((8 * k + j) / 8) 0) ((8 * k + j) % 8)
          ∙ ap (λ (n : ℕ). bit_at (get_or bytes n 0) ((8 * k + j) % 8)) byte
          ∙ ap (λ (n : ℕ). bit_at (get_or bytes k 0) n) bit
      | inr more ↦
          let last : places / 8 ≡ k = omega arith in
          let high : places % 8 ≤ j = omega arith in
          ap (λ (b : Bool). cond b 1 0) (get_or_past (unpacked places bytes) (8 * k + j) false (omega (arith, length-unpacked places bytes, more)))
          ∙ sym (bit_at_above (get_or bytes k 0) (places % 8) j (subst (λ (n : ℕ). get_or bytes n 0 < 2 ^ (places % 8)) last clear_past) high)
    ]

pub packed-unpacked : (places : ℕ) (bytes : List ℕ) → length bytes ≡ row_width places → AreBytes bytes → is_clear_past places bytes ≡ true → packed (unpacked places bytes) ≡ bytes
unfolding is_clear_past
packed-unpacked places bytes long are clear =
    let row = unpacked places bytes in
    let same : row_width (length row) ≡ row_width places = ap row_width (length-unpacked places bytes) in
    let clear_past = ltb-true (get_or bytes (places / 8) 0) (2 ^ (places % 8)) clear in
    ext_get_or 0 (packed row) bytes (length-packed row ∙ same ∙ sym long) (λ k within.
    let less : k < row_width (length row) = omega (arith, within, length-packed row) in
    let few : k < row_width places = omega (arith, less, same) in
    get_or-packed row k less
    ∙ same_from_bits_below 8 (row_byte row k) (get_or bytes k 0) (row_byte-byte row k) (are k) (λ j below.
    row_byte-bit row k j below ∙ same_bit places bytes k j below few clear_past))
