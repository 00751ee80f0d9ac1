-- Rows that are compared word by word.
use Rattle.std.proofs.Common.{◌≡◌, ⊎_elim, ℕ, ◌+◌, ◌*◌, ◌/◌, ◌%◌, ◌^◌, ◌<◌, ◌≤◌, Bool, true, false, List, length, get_or, bit_and, w64, refl, sym, ap, ◌∙◌, subst, arith}
use Rattle.std.specs.Int.{bit_not}
use Rattle.std.proofs.lemmas.Bool.{cases_eq}
use Rattle.qm_lists.specs.Word.{has_bit, IsWord}
use Rattle.qm_lists.proofs.Bits.{has_bit-and, has_bit-not, has_bit-zero}
use Rattle.qm_lists.proofs.WorkLists.{place_within}
use Rattle.qm_chains.specs.inner.Narrowing.{ShowsNothingNew, ShowsNothingNewUpTo}
use Rattle.qm_chains.proofs.TriedPortals.{in_or_clear}

-- where a word has no bit that a mask has and what was found has not, a bit of the two is found
new_bit : (mask found bit : ℕ) → found < 2 ^ 64 → bit < 64 → has_bit mask bit ≡ true → has_bit found bit ≡ false → has_bit (bit_and mask (bit_not w64 found)) bit ≡ true
new_bit mask found bit small within in_mask clear =
    let both = has_bit-and mask (bit_not w64 found) bit in
    let flipped = has_bit-not found bit small within in
    both ∙ rw (flipped, in_mask, clear) refl

none_set : (word bit : ℕ) → word ≡ 0 → has_bit word bit ≡ true → ⊥
none_set word bit zero is =
    let never : true ≡ false = sym is ∙ ap (λ (n : ℕ). has_bit n bit) zero ∙ has_bit-zero bit in
    cc

module _ (Must : ℕ → Type 0) (mask found : List Bool) where
  -- none that may be new is among those that an answer must have
  shows_more : (words mask_word found_word : ℕ) → ShowsNothingNewUpTo Must words mask found → IsWord mask words mask_word → IsWord found words found_word → found_word < 2 ^ 64 →
      ((bit : ℕ) → bit < 64 → Must (64 * words + bit) → has_bit (bit_and mask_word (bit_not w64 found_word)) bit ≡ true → ⊥) → ShowsNothingNewUpTo Must (words + 1) mask found
  shows_more words mask_word found_word so_far is_mask is_found small none n before in_mask must = ⊎_elim
      (λ here. ⊎_elim
      (λ is. is)
      (λ clear.
      let bit : n % 64 < 64 = omega arith in
      let place : n ≡ 64 * words + n % 64 = omega (arith, here) in
      let has_mask = is_mask (n % 64) bit ∙ ap (λ (m : ℕ). get_or mask m false) (sym place) ∙ in_mask in
      let has_none = is_found (n % 64) bit ∙ ap (λ (m : ℕ). get_or found m false) (sym place) ∙ clear in
      absurd (none (n % 64) bit (subst Must place must) (new_bit mask_word found_word (n % 64) small bit has_mask has_none)))
      (in_or_clear found n))
      (λ other. so_far n (omega (arith, before, other)) in_mask must)
      (cases_eq (n / 64) words)

  -- the mask has none in its word that was not found
  pub shows_none_new : (words mask_word found_word : ℕ) → ShowsNothingNewUpTo Must words mask found → IsWord mask words mask_word → IsWord found words found_word → found_word < 2 ^ 64 →
      bit_and mask_word (bit_not w64 found_word) ≡ 0 → ShowsNothingNewUpTo Must (words + 1) mask found
  shows_none_new words mask_word found_word so_far is_mask is_found small zero =
      shows_more words mask_word found_word so_far is_mask is_found small (λ bit within must is. none_set (bit_and mask_word (bit_not w64 found_word)) bit zero is)

  -- the word of the row has none of them
  pub shows_none_there : (words word mask_word found_word : ℕ) → ShowsNothingNewUpTo Must words mask found → IsWord mask words mask_word → IsWord found words found_word → found_word < 2 ^ 64 →
      ((bit : ℕ) → bit < 64 → Must (64 * words + bit) → has_bit word bit ≡ true) →
      bit_and word (bit_and mask_word (bit_not w64 found_word)) ≡ 0 → ShowsNothingNewUpTo Must (words + 1) mask found
  shows_none_there words word mask_word found_word so_far is_mask is_found small sound zero =
      let left = bit_and mask_word (bit_not w64 found_word) in
      shows_more words mask_word found_word so_far is_mask is_found small (λ bit within must is.
      let both = has_bit-and word left bit in
      let has = sound bit within must in
      none_set (bit_and word left) bit zero (both ∙ rw (has, is) refl))

  pub shows_nothing : (words : ℕ) → length mask ≤ 64 * words → ShowsNothingNewUpTo Must words mask found → ShowsNothingNew Must mask found
  shows_nothing words enough so_far n in_mask must =
      let inside = place_within mask n in_mask in
      so_far n (omega (arith, enough, inside)) in_mask must
