-- The row that words keep, place by place.
use Rattle.std.proofs.Common.{◌≡◌, ◌≢◌, ℕ, ◌+◌, ◌*◌, ◌/◌, ◌%◌, ◌^◌, ◌==◌, bit_and, ◌<◌, ◌≤◌, Bool, false, List, length, get_or, set, replicate, refl, ap, sym, ◌∙◌, arith, ⊎_elim}
use Rattle.std.proofs.lemmas.Bool.{cases_lt}
use Rattle.std.proofs.lemmas.List.{ext_get_or, get_or_past, get_or-set_same, get_or-set_other, get_or-replicate, length-replicate, get_or_default}
use Rattle.std.proofs.lemmas.Nat.Bits.{shr_and_one}
use Rattle.std.proofs.lemmas.List.FromFn.{get_or-map-range_with_len, length-map-range_with_len}
use Rattle.qm_lists.specs.Word.{has_bit}
use Rattle.qm_bits.specs.inner.Rows.{is_set, row_of, IsRow}
use Rattle.qm_lists.proofs.Bits.{has_bit-zero}

pub length-row_of : (words : List ℕ) (len : ℕ) → length (row_of words len) ≡ len
unfolding row_of
length-row_of words len = length-map-range_with_len (is_set words) 0 len

pub place_within : (words : List ℕ) (len place : ℕ) → place < len → get_or (row_of words len) place false ≡ is_set words place
unfolding row_of
place_within words len place within = get_or-map-range_with_len (is_set words) 0 len place place false within (omega arith)

-- each place of the row, and past its end too, is a bit of the words
pub place_of : (words : List ℕ) (len : ℕ) → IsRow words len → (place : ℕ) → get_or (row_of words len) place false ≡ is_set words place
place_of words len row place =
    ⊎_elim (λ within. place_within words len place within) (λ past. get_or_past (row_of words len) place false (long past) ∙ sym (row.clear_past place past)) (cases_lt place len)
  where
    long : len ≤ place → length (row_of words len) ≤ place
    long past = let l = length-row_of words len in omega arith

-- and a list that has the bits at its places is the row
pub same_row : (words : List ℕ) (len : ℕ) (list : List Bool) → length list ≡ len → ((place : ℕ) → place < len → is_set words place ≡ get_or list place false) → row_of words len ≡ list
same_row words len list long same =
    ext_get_or false (row_of words len) list (length-row_of words len ∙ sym long) (λ place within. let l = length-row_of words len in place_within words len place (omega arith) ∙ same place (omega arith))

-- a place below the length lies in a word
pub word_within : (words : List ℕ) (len place : ℕ) → IsRow words len → place < len → place / 64 < length words
word_within words len place row within = let count = row.word_count in omega arith

pub word_number_within : (words : List ℕ) (len k : ℕ) → IsRow words len → 64 * k < len → k < length words
word_number_within words len k row within = let count = row.word_count in omega arith

-- ---- one word

at_bit : (words : List ℕ) (k bit m i : ℕ) → m ≡ k → i ≡ bit → has_bit (get_or words m 0) i ≡ has_bit (get_or words k 0) bit
at_bit words k bit m i e f = rw e rw f refl

pub is_set-at : (words : List ℕ) (k bit : ℕ) → bit < 64 → is_set words (64 * k + bit) ≡ has_bit (get_or words k 0) bit
unfolding is_set
is_set-at words k bit within = at_bit words k bit ((64 * k + bit) / 64) ((64 * k + bit) % 64) (omega arith) (omega arith)

-- no word has a bit past the last one
pub is_set-past : (words : List ℕ) (place : ℕ) → length words ≤ place / 64 → is_set words place ≡ false
unfolding is_set
is_set-past words place past = ap (λ w. has_bit w (place % 64)) (get_or_past words (place / 64) 0 past) ∙ has_bit-zero (place % 64)

-- in another word than the one that is written all stay
pub is_set-other_word : (words : List ℕ) (k word place : ℕ) → place / 64 ≢ k → is_set (set words k word) place ≡ is_set words place
unfolding is_set
is_set-other_word words k word place other = ap (λ w. has_bit w (place % 64)) (get_or-set_other words k (place / 64) word 0 other)

pub is_set-written : (words : List ℕ) (k word place : ℕ) → k < length words → place / 64 ≡ k → is_set (set words k word) place ≡ has_bit word (place % 64)
unfolding is_set
is_set-written words k word place within here =
    rw here (ap (λ (w : ℕ). has_bit w (place % 64)) (get_or-set_same words k word 0 within))

pub is_set-in : (words : List ℕ) (k place : ℕ) → place / 64 ≡ k → is_set words place ≡ has_bit (get_or words k 0) (place % 64)
unfolding is_set
is_set-in words k place here = rw here refl

-- in words of zeros no bit is set
pub is_set-zeros : (n place : ℕ) → is_set (replicate n 0) place ≡ false
unfolding is_set
is_set-zeros n place =
    ⊎_elim (λ within. ap (λ w. has_bit w (place % 64)) (get_or-replicate n (place / 64) 0 0 within) ∙ has_bit-zero (place % 64)) (λ past. is_set-past (replicate n 0) place (zeros_past past)) (cases_lt (place / 64) n)
  where
    zeros_past : n ≤ place / 64 → length {A = ℕ} (replicate n 0) ≤ place / 64
    zeros_past past = let l : length {A = ℕ} (replicate n 0) ≡ n = length-replicate n 0 in omega arith

-- ---- the words of a row that is seen as a list

pub within_row : (words : List ℕ) (len : ℕ) (list : List Bool) (n : ℕ) → row_of words len ≡ list → n < length list → n < len
within_row words len list n view within =
    let long : length list ≡ len = ap (λ (l : List Bool). length l) (sym view) ∙ length-row_of words len in
    omega (arith, within, long)

-- what is read from the words, where it is known to stand there
pub read_word : (words : List ℕ) (k w : ℕ) → k < length words → w ≡ get_or words k w → w ≡ get_or words k 0
read_word words k w within read = read ∙ get_or_default words k w 0 within

pub read_place : (words : List ℕ) (len i w : ℕ) (list : List Bool) → row_of words len ≡ list → IsRow words len → i < length list → w ≡ get_or words (i / 64) w → (bit_and (w / 2 ^ (i % 64)) 1 == 1) ≡ get_or list i false
read_place words len i w list view row within read =
    ap (λ (n : ℕ). n == 1) (shr_and_one w (i % 64)) ∙ ap (λ (n : ℕ). has_bit n (i % 64)) (read_word words (i / 64) w (word_within words len i row (within_row words len list i view within)) read) ∙ sym (is_set-in words (i / 64) i refl) ∙ sym (place_of words len row i) ∙ ap (λ (l : List Bool). get_or l i false) view

-- rows of one length have equally many words
pub same_counts : (words other : List ℕ) (len other_len : ℕ) (list other_list : List Bool) → row_of words len ≡ list → row_of other other_len ≡ other_list → IsRow words len → IsRow other other_len → length other_list ≡ length list → (other_len ≡ len) × (length other ≡ length words)
same_counts words other len other_len list other_list view other_view row other_row same =
    let long : length list ≡ len = ap (λ (l : List Bool). length l) (sym view) ∙ length-row_of words len in
    let other_long : length other_list ≡ other_len = ap (λ (l : List Bool). length l) (sym other_view) ∙ length-row_of other other_len in
    let lens : other_len ≡ len = omega (arith, long, other_long, same) in
    (lens, omega (arith, lens, row.word_count, other_row.word_count))
