-- What is set in some words and clear in others.
use Rattle.std.proofs.Common.{◌≡◌, ◌↔◌, ℕ, ◌+◌, ◌*◌, ◌/◌, ◌%◌, ◌^◌, ◌<◌, Bool, true, false, not, List, length, get_or, bit_and, w64, refl, ap, sym, ◌∙◌, arith, ⊎_elim}
use Rattle.std.specs.Int.{bit_not}
use Rattle.std.proofs.lemmas.Bool.{cases_lt, both_ways, and_parts, not-true}
use Rattle.qm_lists.specs.Unseen.{HasUnseen}
use Rattle.qm_lists.specs.Word.{has_bit}
use Rattle.qm_bits.specs.inner.Rows.{is_set, row_of, IsRow}
use Rattle.qm_bits.specs.inner.Words.{HaveUnseen, NoneIsUnseen}
use Rattle.qm_lists.proofs.Bits.{has_bit-and, has_bit-not, has_bit-zero, some_bit}
use Rattle.qm_bits.proofs.Rows.{place_of, is_set-at, is_set-in, is_set-past}

-- a bit of what is set in a word and clear in the one that was seen
pub new_bit : (words seen : List ℕ) (k : ℕ) → get_or seen k 0 < 2 ^ 64 → bit_and (get_or words k 0) (bit_not w64 (get_or seen k 0)) < 2 ^ 64 → 0 < bit_and (get_or words k 0) (bit_not w64 (get_or seen k 0)) → HaveUnseen words seen
new_bit words seen k seen_small small some =
    (64 * k + bit, is_set-at words k bit within ∙ parts.0, is_set-at seen k bit within ∙ not-true (has_bit (get_or seen k 0) bit) (sym (has_bit-not (get_or seen k 0) bit seen_small within) ∙ parts.1))
  where
    found : (i : ℕ) × (i < 64) × (has_bit (bit_and (get_or words k 0) (bit_not w64 (get_or seen k 0))) i ≡ true)
    found = some_bit (bit_and (get_or words k 0) (bit_not w64 (get_or seen k 0))) small some

    bit : ℕ
    bit = found.0

    within : bit < 64
    within = found.1

    parts : (has_bit (get_or words k 0) bit ≡ true) × (has_bit (bit_not w64 (get_or seen k 0)) bit ≡ true)
    parts = and_parts (has_bit (get_or words k 0) bit) (has_bit (bit_not w64 (get_or seen k 0)) bit) (sym (has_bit-and (get_or words k 0) (bit_not w64 (get_or seen k 0)) bit) ∙ found.2)

-- where no word has one, nothing is new
pub nothing_new : (words seen : List ℕ) → ((k : ℕ) → get_or seen k 0 < 2 ^ 64) → NoneIsUnseen (length words) words seen → HaveUnseen words seen → ⊥
nothing_new words seen small none (place, here, clear) = ⊎_elim (λ within. in_word within) (λ past. both_ways (is_set words place) (is_set-past words place past) here) (cases_lt (place / 64) (length words))
  where
    in_word : place / 64 < length words → ⊥
    in_word within =
        let w = get_or words (place / 64) 0 in
        let s = get_or seen (place / 64) 0 in
        let zero_bit : has_bit (bit_and w (bit_not w64 s)) (place % 64) ≡ false = ap (λ (n : ℕ). has_bit n (place % 64)) (none (place / 64) within) ∙ has_bit-zero (place % 64) in
        let set_bit : has_bit w (place % 64) ≡ true = sym (is_set-in words (place / 64) place refl) ∙ here in
        let clear_bit : has_bit (bit_not w64 s) (place % 64) ≡ true = has_bit-not s (place % 64) (small (place / 64)) (omega arith) ∙ ap not (sym (is_set-in seen (place / 64) place refl) ∙ clear) in
        both_ways (has_bit (bit_and w (bit_not w64 s)) (place % 64)) zero_bit (has_bit-and w (bit_not w64 s) (place % 64) ∙ rw set_bit clear_bit)

-- the news of words are those of their rows
pub news_of_rows : (words seen : List ℕ) (len seen_len : ℕ) → IsRow words len → IsRow seen seen_len → HaveUnseen words seen ↔ HasUnseen (row_of words len) (row_of seen seen_len)
news_of_rows words seen len seen_len row seen_row = (
  λ new. (new.0, place_of words len row new.0 ∙ new.1, place_of seen seen_len seen_row new.0 ∙ new.2),
  λ new. (new.0, sym (place_of words len row new.0) ∙ new.1, sym (place_of seen seen_len seen_row new.0) ∙ new.2),
)

pub news_of_lists : (words seen : List ℕ) (len seen_len : ℕ) (list seen_list : List Bool) → row_of words len ≡ list → row_of seen seen_len ≡ seen_list → IsRow words len → IsRow seen seen_len → HaveUnseen words seen ↔ HasUnseen list seen_list
news_of_lists words seen len seen_len list seen_list view seen_view row seen_row =
    rw (sym view) (rw (sym seen_view) (news_of_rows words seen len seen_len row seen_row))
