-- Filling a row word by word.
use Rattle.std.proofs.Common.{◌≡◌, ◌<◌, ◌≤◌, ℕ, zero, suc, ◌+◌, ◌*◌, ◌-◌, ◌/◌, ◌%◌, ◌^◌, Bool, true, false, eqb, ltb, ◌&&◌, List, [], ◌∷◌, ◌++◌, length, get_or, take, drop, replicate, refl, sym, ap, ◌∙◌, arith, inl, inr}
use Rattle.std.specs.Int.{w64, bit_at, to_le_bytes, div_ceil}
use Rattle.std.proofs.Math.Nat.{div-eq_of_lt}
use Rattle.std.proofs.lemmas.Bool.{cases_lt, lt-ltb, le-ltb, eq-eqb, ne_eqb}
use Rattle.std.proofs.lemmas.List.{ext_get_or, get_or-replicate, length-replicate, take_all}
use Rattle.std.proofs.lemmas.Nat.{le-div, pow_pos}
use Rattle.qm_lists.specs.Word.{IsMasked}
use Rattle.qm_formats.specs.RowBits.{row_width, unpacked}
use Rattle.qm_formats.proofs.PackedRows.{get_or-unpacked, length-unpacked}
use Rattle.qm_file.proofs.RowWords.{bytes_bit}

behind_zeros : (bytes : List ℕ) (count i : ℕ) → get_or (bytes ++ replicate count 0) i 0 ≡ get_or bytes i 0
behind_zeros [] zero i = refl
behind_zeros [] (suc count) zero = refl
behind_zeros [] (suc count) (suc i) = behind_zeros [] count i
behind_zeros (byte ∷ bytes) count zero = refl
behind_zeros (byte ∷ bytes) count (suc i) = behind_zeros bytes count i

-- the first words of a row are those of the bytes, and in the others all places are set
pub record IsUnpacked (places : ℕ) (packed : List ℕ) (row : List Bool) (k : ℕ) : Type 0 where
  pub long : length row ≡ places
  pub done : (i : ℕ) → i < 64 * k → i < places → get_or row i false ≡ get_or (unpacked places packed) i false
  pub left : (i : ℕ) → 64 * k ≤ i → i < places → get_or row i false ≡ true

pub none_unpacked : (places : ℕ) (packed : List ℕ) (row : List Bool) → row ≡ replicate places true → IsUnpacked places packed row 0
none_unpacked places packed row full =
    record {
      long = ap length full ∙ length-replicate places true;
      done = λ i less within. absurd (omega (arith, less));
      left = λ i more within. ap (λ (set : List Bool). get_or set i false) full ∙ get_or-replicate places i true false within;
    }

pub word_unpacked : (places : ℕ) (packed : List ℕ) (row new : List Bool) (k word : ℕ) → to_le_bytes w64 word ≡ take 8 (drop (8 * k) packed) → IsMasked row new k word → IsUnpacked places packed row k → IsUnpacked places packed new (k + 1)
word_unpacked places packed row new k word is masked so_far =
    record {
      long = masked.same_length ∙ so_far.long;
      done = λ i less within. elim (cases_lt i (64 * k)) [
        | inl before ↦ masked.elsewhere i (λ same. absurd (omega (arith, before, same))) ∙ so_far.done i before within
        | inr past ↦
            let bit = i - 64 * k in
            let place : 64 * k + bit ≡ i = omega (arith, past) in
            let below : bit < 64 = omega (arith, past, less) in
            let set : get_or row (64 * k + bit) false ≡ true = ap (λ (n : ℕ). get_or row n false) place ∙ so_far.left i past within in
            ap (λ (n : ℕ). get_or new n false) (sym place)
            ∙ masked.in_word bit below
            ∙ ap (λ (b : Bool). b && eqb (bit_at word bit) 1) set
            ∙ ap (λ (n : ℕ). eqb n 1) (bytes_bit packed k word bit is below)
            ∙ ap (λ (n : ℕ). eqb (bit_at (get_or packed (n / 8) 0) (n % 8)) 1) place
            ∙ sym (get_or-unpacked places packed i within)
      ];
      left = λ i more within. masked.elsewhere i (λ same. absurd (omega (arith, more, same))) ∙ so_far.left i (omega (arith, more)) within;
    }

pub all_unpacked : (places : ℕ) (packed : List ℕ) (row : List Bool) (k : ℕ) → IsUnpacked places packed row k → places ≤ 64 * k → row ≡ unpacked places packed
all_unpacked places packed row k so_far all =
    ext_get_or false row (unpacked places packed) (so_far.long ∙ sym (length-unpacked places packed)) (λ i within. so_far.done i (omega (arith, within, so_far.long, all)) (omega (arith, within, so_far.long)))

-- zeros behind bytes change no place
pub unpacked-zeros : (places : ℕ) (bytes : List ℕ) (count : ℕ) → unpacked places (bytes ++ replicate count 0) ≡ unpacked places bytes
unpacked-zeros places bytes count =
    let more = bytes ++ replicate count 0 in
    ext_get_or false (unpacked places more) (unpacked places bytes) (length-unpacked places more ∙ sym (length-unpacked places bytes)) (λ i within.
    let there : i < places = omega (arith, within, length-unpacked places more) in
    get_or-unpacked places more i there
    ∙ ap (λ (n : ℕ). eqb (bit_at n (i % 8)) 1) (behind_zeros bytes count (i / 8))
    ∙ sym (get_or-unpacked places bytes i there))

-- bytes of a row, with zeros behind them up to a whole word
pub unpacked-padded : (places words : ℕ) (bytes padded : List ℕ) (count : ℕ) → length bytes ≡ row_width places → words ≡ div_ceil places 64 → padded ≡ take (8 * words) bytes ++ replicate count 0 → unpacked places padded ≡ unpacked places bytes
unpacked-padded places words bytes padded count width all is =
    let whole : take (8 * words) bytes ≡ bytes = take_all (8 * words) bytes (omega (arith, width, all)) in
    ap (unpacked places) is ∙ ap (λ (front : List ℕ). unpacked places (front ++ replicate count 0)) whole ∙ unpacked-zeros places bytes count

-- a number has no bit from a place on where nothing is left when it is shifted by so much
pub shifted_out : (byte k : ℕ) → eqb (byte / 2 ^ k) 0 ≡ ltb byte (2 ^ k)
shifted_out byte k =
    elim (cases_lt byte (2 ^ k)) [
      | inl less ↦ eq-eqb (byte / 2 ^ k) 0 (div-eq_of_lt less) ∙ sym (lt-ltb byte (2 ^ k) less)
      | inr more ↦
          let some = le-div 1 byte (2 ^ k) (pow_pos k) (omega (arith, more)) in
          ne_eqb (byte / 2 ^ k) 0 (λ none. absurd (omega (arith, some, none))) ∙ sym (le-ltb byte (2 ^ k) more)
    ]
