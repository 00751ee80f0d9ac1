-- The bytes of the words of a row are the bytes of the row, and the bits of a word are those of its bytes.
use Rattle.std.proofs.Common.{◌≡◌, ◌<◌, ◌≤◌, ℕ, zero, suc, ◌+◌, ◌*◌, ◌/◌, ◌%◌, ◌^◌, Bool, false, cond, List, length, take, drop, get_or, refl, sym, ap, ◌∙◌, inl, inr, arith, w64}
use Rattle.std.specs.Int.{bit_at, to_le_bytes, from_le_bytes}
use Rattle.std.proofs.lemmas.Bool.{cases_lt}
use Rattle.std.proofs.lemmas.List.{get_or-take, get_or-drop, get_or_past, length-take, length-drop}
use Rattle.std.proofs.lemmas.Nat.{shr-shr, shr_split, mod_below, le_bytes_8}
use Rattle.std.proofs.lemmas.Nat.Bits.{same_from_bits_below, bit_at_cat_low}
use Rattle.qm_lists.specs.Word.{IsWord}
use Rattle.qm_formats.specs.Fields.{AreBytes}
use Rattle.qm_formats.specs.RowBits.{row_byte}
use Rattle.qm_formats.proofs.PackedRows.{row_byte-bit, row_byte-byte, test_bit}

-- a byte of a number of 64 bits
le_byte : (n j : ℕ) → j < 8 → get_or (to_le_bytes w64 n) j 0 ≡ n / 2 ^ (8 * j) % 2 ^ 8
le_byte n zero within = omega arith
le_byte n (suc zero) within = refl
le_byte n (suc (suc zero)) within = refl
le_byte n (suc (suc (suc zero))) within = refl
le_byte n (suc (suc (suc (suc zero)))) within = refl
le_byte n (suc (suc (suc (suc (suc zero))))) within = refl
le_byte n (suc (suc (suc (suc (suc (suc zero)))))) within = refl
le_byte n (suc (suc (suc (suc (suc (suc (suc zero))))))) within = refl
le_byte n (suc (suc (suc (suc (suc (suc (suc (suc j)))))))) within = absurd (omega arith)

low_bits : (n k i : ℕ) → i < 8 → bit_at (n / 2 ^ k % 2 ^ 8) i ≡ bit_at n (k + i)
low_bits n k i within =
    let a = n / 2 ^ k in
    sym (bit_at_cat_low (a / 2 ^ 8) 8 (a % 2 ^ 8) i within)
    ∙ ap (λ (m : ℕ). bit_at m i) (shr_split a 8)
    ∙ ap (λ (m : ℕ). m % 2) (shr-shr n k i)

pub word_byte : (row : List Bool) (place word : ℕ) → IsWord row (place / 8) word → get_or (to_le_bytes w64 word) (place % 8) 0 ≡ row_byte row place
word_byte row place word is =
    let k = place / 8 in
    let j = place % 8 in
    let within : j < 8 = omega arith in
    let byte = word / 2 ^ (8 * j) % 2 ^ 8 in
    le_byte word j within
    ∙ same_from_bits_below 8 byte (row_byte row place) (mod_below (word / 2 ^ (8 * j)) (2 ^ 8) (omega arith)) (row_byte-byte row place) (λ i below.
    let bit : 8 * j + i < 64 = omega arith in
    let there : 64 * k + (8 * j + i) ≡ 8 * place + i = omega arith in
    low_bits word (8 * j) i below
    ∙ sym (test_bit word (8 * j + i))
    ∙ ap (λ (b : Bool). cond b 1 0) (is (8 * j + i) bit)
    ∙ ap (λ (n : ℕ). cond (get_or row n false) 1 0) there
    ∙ sym (row_byte-bit row place i below))

-- a part of eight bytes, as a number
pub part_bytes : (bytes : List ℕ) (k word : ℕ) → AreBytes bytes → 8 * k + 8 ≤ length bytes → word ≡ from_le_bytes w64 (take 8 (drop (8 * k) bytes)) → to_le_bytes w64 word ≡ take 8 (drop (8 * k) bytes)
part_bytes bytes k word are within is =
    let rest = drop (8 * k) bytes in
    let long : length (take 8 rest) ≡ 8 = omega (arith, length-take 8 rest, length-drop (8 * k) bytes, within) in
    le_bytes_8 (take 8 rest) word long (λ i.
    elim (cases_lt i 8) [
      | inl less ↦ rw (get_or-take 8 rest i 0 less, get_or-drop (8 * k) bytes i 0) (are (8 * k + i))
      | inr past ↦ rw (get_or_past (take 8 rest) i 0 (omega (arith, long, past))) (omega arith)
    ]) is

-- a bit of a number whose bytes stand among others is the bit of one of these
pub bytes_bit : (bytes : List ℕ) (k word bit : ℕ) → to_le_bytes w64 word ≡ take 8 (drop (8 * k) bytes) → bit < 64 → bit_at word bit ≡ bit_at (get_or bytes ((64 * k + bit) / 8) 0) ((64 * k + bit) % 8)
bytes_bit bytes k word bit is within =
    let j = bit / 8 in
    let i = bit % 8 in
    let byte : (64 * k + bit) / 8 ≡ 8 * k + j = omega arith in
    let inside : (64 * k + bit) % 8 ≡ i = omega arith in
    let whole : 8 * j + i ≡ bit = omega arith in
    let few : j < 8 = omega arith in
    let same : word / 2 ^ (8 * j) % 2 ^ 8 ≡ get_or bytes (8 * k + j) 0 =
    sym (le_byte word j few) ∙ ap (λ (part : List ℕ). get_or part j 0) is ∙ get_or-take 8 (drop (8 * k) bytes) j 0 few ∙ get_or-drop (8 * k) bytes j 0 in
    ap (λ (n : ℕ). bit_at word n) (sym whole)
    ∙ sym (low_bits word (8 * j) i (omega arith))
    ∙ ap (λ (n : ℕ). bit_at n i) same
    ∙ (λ t. bit_at (get_or bytes (sym byte t) 0) (sym inside t))
