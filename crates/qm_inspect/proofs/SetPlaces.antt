-- The set places of a row, word by word and all at once.
use Rattle.std.proofs.Common.{◌≡◌, ◌≤◌, ◌<◌, ◌*◌, ◌+◌, ◌++◌, ◌∷◌, ℕ, zero, suc, Bool, false, List, [], length, refl, sym, ap, ◌∙◌, append_assoc, append-nil, arith}
use Rattle.std.specs.Prelude.{slice_index_or, if◌then◌else◌}
use Rattle.std.specs.Fmt.{decimal}
use Rattle.qm_lists.specs.Word.{has_bit, IsWord}
use Rattle.qm_lists.proofs.Bits.{has_bit-zero}
use Rattle.qm_answers.specs.AnswerText.{set_places}
use Rattle.qm_inspect.specs.inner.RunWords.{place_words, run_words}

-- ---- runs

pub run_none : (row : List Bool) (first : ℕ) → run_words row first 0 ≡ []
unfolding run_words
run_none row first = refl

pub run_more : (row : List Bool) (first n : ℕ) → run_words row first (n + 1) ≡ run_words row first n ++ place_words row (first + n)
unfolding run_words
run_more row first n = ap (run_words row first) {x = n + 1} {y = suc n} (omega arith)

pub run_join : (row : List Bool) (first m n : ℕ) → run_words row first (m + n) ≡ run_words row first m ++ run_words row (first + m) n
unfolding run_words
run_join row first m zero = ap (run_words row first) {x = m + 0} {y = m} (omega arith) ∙ sym (append-nil (run_words row first m))
run_join row first m (suc n) =
    ap (run_words row first) {x = m + suc n} {y = suc (m + n)} (omega arith)
    ∙ ap (λ (words : List ℕ). words ++ place_words row (first + (m + n))) (run_join row first m n)
    ∙ append_assoc (run_words row first m) (run_words row (first + m) n) (place_words row (first + (m + n)))
    ∙ ap (λ (place : ℕ). run_words row first m ++ (run_words row (first + m) n ++ place_words row place)) {x = first + (m + n)} {y = (first + m) + n} (omega arith)

place_clear : (row : List Bool) (place : ℕ) → slice_index_or row place false ≡ false → place_words row place ≡ []
place_clear row place clear = ap (λ (set : Bool). if set then 32 ∷ decimal place else []) clear

pub run_clear : (row : List Bool) (first n : ℕ) → ((j : ℕ) → j < n → slice_index_or row (first + j) false ≡ false) → run_words row first n ≡ []
unfolding run_words
run_clear row first zero clear = refl
run_clear row first (suc n) clear =
    ap (λ (words : List ℕ). words ++ place_words row (first + n)) (run_clear row first n (λ j within. clear j (omega arith))) ∙ place_clear row (first + n) (clear n (omega arith))

-- ---- one word

-- a word that is 0 has no place
pub word_clear : (row : List Bool) (k word : ℕ) → IsWord row k word → word ≡ 0 → run_words row (64 * k) 64 ≡ []
word_clear row k word is zero_word = run_clear row (64 * k) 64 (λ bit within. sym (is bit within) ∙ ap (λ (n : ℕ). has_bit n bit) zero_word ∙ has_bit-zero bit)

-- one bit more
pub bit_more : (row : List Bool) (k word bit : ℕ) → IsWord row k word → bit < 64 → run_words row (64 * k) (bit + 1) ≡ run_words row (64 * k) bit ++ (if has_bit word bit then 32 ∷ decimal (64 * k + bit) else [])
bit_more row k word bit is within =
    run_more row (64 * k) bit ∙ ap (λ (set : Bool). run_words row (64 * k) bit ++ (if set then 32 ∷ decimal (64 * k + bit) else [])) (sym (is bit within))

-- ---- the whole row

-- what is left of the row, from a place on
rest_of : (row rest : List Bool) (k n : ℕ) → ((j : ℕ) → slice_index_or row (k + j) false ≡ slice_index_or rest j false) → length rest ≤ n → run_words row k n ≡ set_places k rest
rest_of row [] k n same few = run_clear row k n (λ j within. same j)
rest_of row (set ∷ rest) k zero same few = absurd (omega (arith, few))
rest_of row (set ∷ rest) k (suc n) same few =
    ap (run_words row k) {x = suc n} {y = 1 + n} (omega arith)
    ∙ run_join row k 1 n
    ∙ ap (λ (words : List ℕ). words ++ run_words row (k + 1) n) first_place
    ∙ ap (λ (words : List ℕ). (if set then 32 ∷ decimal k else []) ++ words) (rest_of row rest (k + 1) n later (omega (arith, few)))
  where
    first_place : run_words row k 1 ≡ (if set then 32 ∷ decimal k else [])
    first_place =
        run_more row k 0
        ∙ ap (λ (words : List ℕ). words ++ place_words row (k + 0)) (run_none row k)
        ∙ ap (place_words row) {x = k + 0} {y = k} (omega arith)
        ∙ ap (λ (here : Bool). if here then 32 ∷ decimal k else []) (ap (λ (place : ℕ). slice_index_or row place false) {x = k} {y = k + 0} (omega arith) ∙ same 0)

    later : (j : ℕ) → slice_index_or row ((k + 1) + j) false ≡ slice_index_or rest j false
    later j = ap (λ (place : ℕ). slice_index_or row place false) {x = (k + 1) + j} {y = k + suc j} (omega arith) ∙ same (suc j)

pub whole_row : (row : List Bool) (n : ℕ) → length row ≤ n → run_words row 0 n ≡ set_places 0 row
whole_row row n few = rest_of row row 0 n (λ j. ap (λ (place : ℕ). slice_index_or row place false) {x = 0 + j} {y = j} (omega arith)) few

-- ---- text to which these are added

pub begun : (old : List ℕ) (row : List Bool) (first : ℕ) → old ≡ old ++ run_words row first 0
begun old row first = sym (append-nil old) ∙ ap (λ (words : List ℕ). old ++ words) (sym (run_none row first))

pub next_bit :
    (old so_far new : List ℕ) (row : List Bool) (k word bit : ℕ) (set : Bool) → IsWord row k word → bit < 64 → set ≡ has_bit word bit →
    so_far ≡ old ++ run_words row (64 * k) bit → new ≡ so_far ++ (if set then 32 ∷ decimal (64 * k + bit) else []) → new ≡ old ++ run_words row (64 * k) (bit + 1)
next_bit old so_far new row k word bit set is within set_is before after =
    after
    ∙ ap (λ (words : List ℕ). words ++ (if set then 32 ∷ decimal (64 * k + bit) else [])) before
    ∙ append_assoc old (run_words row (64 * k) bit) (if set then 32 ∷ decimal (64 * k + bit) else [])
    ∙ ap (λ (here : Bool). old ++ (run_words row (64 * k) bit ++ (if here then 32 ∷ decimal (64 * k + bit) else []))) set_is
    ∙ ap (λ (words : List ℕ). old ++ words) (sym (bit_more row k word bit is within))

pub no_bit : (old : List ℕ) (row : List Bool) (k word : ℕ) → IsWord row k word → word ≡ 0 → old ≡ old ++ run_words row (64 * k) 64
no_bit old row k word is zero_word = sym (append-nil old) ∙ ap (λ (words : List ℕ). old ++ words) (sym (word_clear row k word is zero_word))

pub next_word :
    (old so_far new : List ℕ) (row : List Bool) (k : ℕ) → so_far ≡ old ++ run_words row 0 (64 * k) → new ≡ so_far ++ run_words row (64 * k) 64 → new ≡ old ++ run_words row 0 (64 * (k + 1))
next_word old so_far new row k before after =
    after
    ∙ ap (λ (words : List ℕ). words ++ run_words row (64 * k) 64) before
    ∙ append_assoc old (run_words row 0 (64 * k)) (run_words row (64 * k) 64)
    ∙ ap (λ (first : ℕ). old ++ (run_words row 0 (64 * k) ++ run_words row first 64)) {x = 64 * k} {y = 0 + 64 * k} (omega arith)
    ∙ ap (λ (words : List ℕ). old ++ words) (sym (run_join row 0 (64 * k) 64))
    ∙ ap (λ (n : ℕ). old ++ run_words row 0 n) {x = 64 * k + 64} {y = 64 * (k + 1)} (omega arith)

pub all_words : (old new : List ℕ) (row : List Bool) (n : ℕ) → new ≡ old ++ run_words row 0 n → length row ≤ n → new ≡ old ++ set_places 0 row
all_words old new row n is few = is ∙ ap (λ (words : List ℕ). old ++ words) (whole_row row n few)
