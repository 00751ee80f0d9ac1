-- What becomes of a row where its words are written.
use Rattle.std.proofs.Common.{◌≡◌, ◌≢◌, ℕ, ◌+◌, ◌*◌, ◌/◌, ◌%◌, ◌^◌, ◌<◌, ◌≤◌, Bool, true, false, ◌&&◌, ◌||◌, List, length, get_or, set, replicate, bit_and, bit_or, refl, ap, ap₂, sym, subst, ◌∙◌, arith, ⊎_elim, ◌⊎◌, inl, inr}
use Rattle.std.specs.Int.{div_ceil}
use Rattle.std.proofs.lemmas.Bool.{cases_eq, cases_lt, and_parts}
use Rattle.std.proofs.lemmas.List.{ext_get_or, length-set, get_or-set_same, get_or-set_other, get_or-replicate, length-replicate}
use Rattle.qm_lists.specs.CutTo.{IsCutTo}
use Rattle.qm_lists.specs.Union.{IsUnion}
use Rattle.qm_lists.specs.WorkList.{IsIn}
use Rattle.qm_lists.specs.Word.{has_bit, IsWord, IsMasked}
use Rattle.qm_bits.specs.inner.Rows.{is_set, row_of, IsRow}
use Rattle.qm_bits.specs.inner.Words.{IsOfBoth}
use Rattle.qm_lists.proofs.Bits.{has_bit-and, has_bit-or, has_bit-set_same, has_bit-set_other}
use Rattle.qm_bits.proofs.Rows.{length-row_of, place_of, same_row, word_within, word_number_within, is_set-at, is_set-past, is_set-other_word, is_set-written, is_set-in, is_set-zeros, same_counts}

and_same : {a b c d : Bool} → a ≡ b → c ≡ d → (a && c) ≡ (b && d)
and_same {a} {b} {c} {d} e f = ap (λ (x : Bool). x && c) e ∙ ap (λ (x : Bool). b && x) f

-- ---- words of zeros

pub zeros_row : (n len : ℕ) → len < 2 ^ 64 → n ≡ div_ceil len 64 → IsRow (replicate n 0) len
zeros_row n len fits enough = record {
  counted = fits;
  word_count = length-replicate n 0 ∙ enough;
  clear_past = λ place past. is_set-zeros n place;
}

pub zeros_clear : (n len : ℕ) → row_of (replicate n 0) len ≡ replicate len false
zeros_clear n len =
    same_row (replicate n 0) len (replicate len false) (length-replicate len false) (λ place within. is_set-zeros n place ∙ sym (get_or-replicate len place false false within))

-- ---- a word of a row

pub word_of_row : (words : List ℕ) (len k : ℕ) → IsRow words len → IsWord (row_of words len) k (get_or words k 0)
word_of_row words len k row bit within = sym (is_set-at words k bit within) ∙ sym (place_of words len row (64 * k + bit))

-- ---- a place is set

module _ (words : List ℕ) (len i : ℕ) (row : IsRow words len) (within : i < len) where
  -- the words with the bit of the place, in the word in which it lies
  abbrev with_bit : ℕ
  with_bit = bit_or (get_or words (i / 64) 0) (1 * 2 ^ (i % 64) % 2 ^ 64)

  abbrev with_place : List ℕ
  with_place = set words (i / 64) with_bit

  in_words : i / 64 < length words
  in_words = word_within words len i row within

  set_there : is_set with_place i ≡ true
  set_there = is_set-written words (i / 64) with_bit i in_words refl ∙ has_bit-set_same (get_or words (i / 64) 0) (i % 64) (omega arith)

  same_elsewhere : (place : ℕ) → place ≢ i → is_set with_place place ≡ is_set words place
  same_elsewhere place other =
      ⊎_elim (λ here. same_word here) (λ there. is_set-other_word words (i / 64) with_bit place there) (cases_eq (place / 64) (i / 64))
    where
      other_bit : place / 64 ≡ i / 64 → place % 64 ≢ i % 64
      other_bit here same = other (omega arith)

      same_word : place / 64 ≡ i / 64 → is_set with_place place ≡ is_set words place
      same_word here =
          is_set-written words (i / 64) with_bit place in_words here ∙ has_bit-set_other (get_or words (i / 64) 0) (i % 64) (place % 64) (omega arith) (other_bit here) ∙ sym (is_set-in words (i / 64) place here)

  pub set_row : IsRow with_place len
  set_row = record {
    counted = row.counted;
    word_count = length-set words (i / 64) with_bit ∙ row.word_count;
    clear_past = λ place past. same_elsewhere place (λ is. absurd (omega (arith, is))) ∙ row.clear_past place past;
  }

  pub set_place : row_of with_place len ≡ set (row_of words len) i true
  set_place =
      same_row with_place len (set (row_of words len) i true) (length-set (row_of words len) i true ∙ length-row_of words len) (λ place inside. each place (cases_eq place i))
    where
      long : i < length (row_of words len)
      long = let l = length-row_of words len in omega arith

      each : (place : ℕ) → (place ≡ i) ⊎ (place ≡ i → ⊥) → is_set with_place place ≡ get_or (set (row_of words len) i true) place false
      each place (inl here) = rw here (set_there ∙ sym (get_or-set_same (row_of words len) i true false long))
      each place (inr other) =
          same_elsewhere place other ∙ sym (place_of words len row place) ∙ sym (get_or-set_other (row_of words len) i place true false other)

-- ---- a word is masked

module _ (words : List ℕ) (len k mask : ℕ) (row : IsRow words len) (within : 64 * k < len) where
  abbrev masked : List ℕ
  masked = set words k (bit_and (get_or words k 0) mask)

  in_word : (place : ℕ) → place / 64 ≡ k → is_set masked place ≡ (is_set words place && has_bit mask (place % 64))
  in_word place here =
      is_set-written words k (bit_and (get_or words k 0) mask) place (word_number_within words len k row within) here ∙ has_bit-and (get_or words k 0) mask (place % 64) ∙ ap (λ (b : Bool). b && has_bit mask (place % 64)) (sym (is_set-in words k place here))

  elsewhere : (place : ℕ) → place / 64 ≢ k → is_set masked place ≡ is_set words place
  elsewhere place there = is_set-other_word words k (bit_and (get_or words k 0) mask) place there

  pub masked_row : IsRow masked len
  masked_row = record {
    counted = row.counted;
    word_count = length-set words k (bit_and (get_or words k 0) mask) ∙ row.word_count;
    clear_past = λ place past. clear place past (cases_eq (place / 64) k);
  }
    where
      clear : (place : ℕ) → len ≤ place → (place / 64 ≡ k) ⊎ (place / 64 ≡ k → ⊥) → is_set masked place ≡ false
      clear place past (inl here) = in_word place here ∙ ap (λ (b : Bool). b && has_bit mask (place % 64)) (row.clear_past place past)
      clear place past (inr there) = elsewhere place there ∙ row.clear_past place past

  pub masked_places : IsMasked (row_of words len) (row_of masked len) k mask
  masked_places = record {
    same_length = length-row_of masked len ∙ sym (length-row_of words len);
    in_word = λ bit inside. place_of masked len masked_row (64 * k + bit) ∙ in_word (64 * k + bit) (omega arith) ∙ both bit inside;
    elsewhere = λ place there. place_of masked len masked_row place ∙ elsewhere place there ∙ sym (place_of words len row place);
  }
    where
      bit_number : (bit n : ℕ) → n ≡ bit → has_bit mask n ≡ has_bit mask bit
      bit_number bit n e = ap (has_bit mask) e

      both : (bit : ℕ) → bit < 64 → (is_set words (64 * k + bit) && has_bit mask ((64 * k + bit) % 64)) ≡ (get_or (row_of words len) (64 * k + bit) false && has_bit mask bit)
      both bit inside = and_same (sym (place_of words len row (64 * k + bit))) (bit_number bit ((64 * k + bit) % 64) (omega arith))

-- ---- a row is made of two

-- what is made of two words, bit by bit
record IsBitwise (of : ℕ → ℕ → ℕ) (op : Bool → Bool → Bool) : Type 0 where
  pub of_bits : (a b i : ℕ) → has_bit (of a b) i ≡ op (has_bit a i) (has_bit b i)
  pub of_clear : op false false ≡ false

or_bitwise : IsBitwise bit_or (λ a b. a || b)
or_bitwise = record { of_bits = has_bit-or; of_clear = refl }

and_bitwise : IsBitwise bit_and (λ a b. a && b)
and_bitwise = record { of_bits = has_bit-and; of_clear = refl }

module _ (of : ℕ → ℕ → ℕ) (op : Bool → Bool → Bool) (bitwise : IsBitwise of op) (old other new : List ℕ) (len : ℕ) (row : IsRow old len) (added : IsRow other len) (is : IsOfBoth of old other new) where
  at_place : (place : ℕ) → is_set new place ≡ op (is_set old place) (is_set other place)
  at_place place = ⊎_elim (λ within. in_a_word within) (λ past. in_none past) (cases_lt (place / 64) (length old))
    where
      in_a_word : place / 64 < length old → is_set new place ≡ op (is_set old place) (is_set other place)
      in_a_word within =
          is_set-in new (place / 64) place refl ∙ ap (λ (w : ℕ). has_bit w (place % 64)) (is.each (place / 64) within) ∙ bitwise.of_bits (get_or old (place / 64) 0) (get_or other (place / 64) 0) (place % 64) ∙ ap₂ op (sym (is_set-in old (place / 64) place refl)) (sym (is_set-in other (place / 64) place refl))

      in_none : length old ≤ place / 64 → is_set new place ≡ op (is_set old place) (is_set other place)
      in_none past =
          let same = is.same_count in
          let count = row.word_count in
          let other_count = added.word_count in
          is_set-past new place (omega arith) ∙ sym (ap₂ op (is_set-past old place past) (is_set-past other place (omega arith)) ∙ bitwise.of_clear)

  row_of_both : IsRow new len
  row_of_both = record {
    counted = row.counted;
    word_count = is.same_count ∙ row.word_count;
    clear_past = λ place past. at_place place ∙ ap₂ op (row.clear_past place past) (added.clear_past place past) ∙ bitwise.of_clear;
  }

  places_of_both : (place : ℕ) → get_or (row_of new len) place false ≡ op (get_or (row_of old len) place false) (get_or (row_of other len) place false)
  places_of_both place = place_of new len row_of_both place ∙ at_place place ∙ sym (ap₂ op (place_of old len row place) (place_of other len added place))

-- the new words are those of a row, each of whose places is made of those of both
record IsMadeOf (op : Bool → Bool → Bool) (list other_list : List Bool) (new : List ℕ) (len : ℕ) : Type 0 where
  pub row : IsRow new len
  pub same_length : length (row_of new len) ≡ length list
  pub places : (place : ℕ) → get_or (row_of new len) place false ≡ op (get_or list place false) (get_or other_list place false)

made_of_lists : (of : ℕ → ℕ → ℕ) (op : Bool → Bool → Bool) → IsBitwise of op → (old other new : List ℕ) (len other_len : ℕ) (list other_list : List Bool) → row_of old len ≡ list → row_of other other_len ≡ other_list → IsRow old len → IsRow other other_len → length other_list ≡ length list → IsOfBoth of old other new → IsMadeOf op list other_list new len
made_of_lists of op bitwise old other new len other_len list other_list view other_view row other_row same is = record {
  row = row_of_both of op bitwise old other new len row added is;
  same_length = length-row_of new len ∙ sym (length-row_of old len) ∙ ap (λ (l : List Bool). length l) view;
  places = λ place. places_of_both of op bitwise old other new len row added is place ∙ ap₂ op (ap (λ (l : List Bool). get_or l place false) view) (ap (λ (l : List Bool). get_or l place false) other_list_is);
}
  where
    lens : other_len ≡ len
    lens = (same_counts old other len other_len list other_list view other_view row other_row same).0

    added : IsRow other len
    added = subst (IsRow other) lens other_row

    other_list_is : row_of other len ≡ other_list
    other_list_is = ap (row_of other) (sym lens) ∙ other_view

pub union_of_lists : (old other new : List ℕ) (len other_len : ℕ) (list other_list : List Bool) → row_of old len ≡ list → row_of other other_len ≡ other_list → IsRow old len → IsRow other other_len → length other_list ≡ length list → IsOfBoth bit_or old other new → IsRow new len × IsUnion list other_list (row_of new len)
union_of_lists old other new len other_len list other_list view other_view row other_row same is =
    let made = made_of_lists bit_or (λ a b. a || b) or_bitwise old other new len other_len list other_list view other_view row other_row same is in
    (made.row, record { same_length = made.same_length; in_one = made.places })

pub cut_of_lists : (old other new : List ℕ) (len other_len : ℕ) (list other_list : List Bool) → row_of old len ≡ list → row_of other other_len ≡ other_list → IsRow old len → IsRow other other_len → length other_list ≡ length list → IsOfBoth bit_and old other new → IsRow new len × IsCutTo other_list list (row_of new len)
cut_of_lists old other new len other_len list other_list view other_view row other_row same is =
    let made = made_of_lists bit_and (λ a b. a && b) and_bitwise old other new len other_len list other_list view other_view row other_row same is in (
      made.row,
      record {
        same_length = made.same_length;
        exactly = λ place. (
          λ set. and_parts (get_or list place false) (get_or other_list place false) (sym (made.places place) ∙ set),
          λ both. made.places place ∙ ap₂ (λ (a b : Bool). a && b) both.0 both.1,
        );
      },
    )

-- ---- a row is copied, or all its places are set

pub copied : (old other : List ℕ) (len other_len : ℕ) (list other_list : List Bool) → row_of old len ≡ list → row_of other other_len ≡ other_list → IsRow old len → IsRow other other_len → length other_list ≡ length list → IsRow other len × (row_of other len ≡ other_list)
copied old other len other_len list other_list view other_view row other_row same =
    let lens = (same_counts old other len other_len list other_list view other_view row other_row same).0 in
    (subst (IsRow other) lens other_row, ap (row_of other) (sym lens) ∙ other_view)

pub all_full : (row : List Bool) (n : ℕ) → length row ≡ n → ((place : ℕ) → place < n → IsIn row place) → row ≡ replicate n true
all_full row n long all =
    ext_get_or false row (replicate n true) (long ∙ sym (length-replicate n true)) (λ place within. let inside : place < n = omega (arith, within, long) in all place inside ∙ sym (get_or-replicate n place true false inside))

-- one place more is set
pub one_more_set : (row : List Bool) (n : ℕ) → n < length row → ((place : ℕ) → place < n → IsIn row place) → (place : ℕ) → place < n + 1 → IsIn (set row n true) place
one_more_set row n within all place below = ⊎_elim
    (λ here. rw here (get_or-set_same row n true false within))
    (λ other. get_or-set_other row n place true false other ∙ all place (omega (arith, below, other)))
    (cases_eq place n)
