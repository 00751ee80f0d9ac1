-- Words of a mask that have something new: they are listed one after another, and a row that shows nothing in them shows nothing new.
use Rattle.std.proofs.Common.{◌≡◌, ⊎_elim, ℕ, zero, suc, ◌+◌, ◌*◌, ◌/◌, ◌^◌, ◌<◌, Bool, true, false, List, [], ◌∷◌, ◌++◌, length, Contains, get_or, bit_and, w64, sym, ◌∙◌, subst, arith}
use Rattle.std.specs.Int.{bit_not}
use Rattle.std.specs.Int.Bits.{and_lt}
use Rattle.std.specs.List.Sorted.{IsPermutation}
use Rattle.std.proofs.lemmas.Bool.{and_parts, not-true}
use Rattle.std.proofs.lemmas.List.Elements.{Contains-append_left, Contains-append_right, Contains-append_cases}
use Rattle.std.proofs.lemmas.List.Sorted.{All-permutation, Contains-permutation}
use Rattle.qm_lists.specs.Unseen.{HasUnseen}
use Rattle.qm_lists.specs.Word.{has_bit, IsWord}
use Rattle.qm_lists.specs.WorkList.{IsIn}
use Rattle.qm_lists.proofs.Bits.{has_bit-and, has_bit-not, some_bit}
use Rattle.qm_lists.proofs.Elements.{Contains-first}
use Rattle.qm_chains.specs.inner.Narrowing.{ShowsNothingNew, ShowsNothingNewUpTo}
use Rattle.qm_chains.proofs.Words.{shows_none_there}
use Rattle.qm_chains.proofs.TriedPortals.{in_or_clear, not_in_if_clear}
use Rattle.qm_flow.specs.inner.NewWords.{HaveAllNew}

only_one : {X : Type 0} (a x : X) → Contains (a ∷ []) x → x ≡ a
only_one a x (zero, within, is) = sym is
only_one a x (suc k, within, is) = absurd (omega arith)

module _ (mask found : List Bool) where
  pub list_more : (words : List ℕ) (k : ℕ) → ShowsNothingNewUpTo (λ n. Contains words (n / 64) → ⊥) k mask found → ShowsNothingNewUpTo (λ n. Contains (words ++ k ∷ []) (n / 64) → ⊥) (k + 1) mask found
  list_more words k so_far n before in_mask other =
      let not_here : n / 64 ≡ k → ⊥ = λ here. other (subst (Contains (words ++ k ∷ [])) (sym here) (Contains-append_right words (k ∷ []) k (Contains-first k []))) in
      so_far n (omega (arith, before, not_here)) in_mask (λ has. other (Contains-append_left words (k ∷ []) (n / 64) has))

  -- in another order they are the same words
  pub listed_anew : (words new : List ℕ) → IsPermutation words new → HaveAllNew mask found words → HaveAllNew mask found new
  listed_anew words new moved all = record {
    within = All-permutation (λ k. 64 * k < length mask) words new moved all.within;
    all_new = λ n in_mask other. all.all_new n in_mask (λ has. other (Contains-permutation words new (n / 64) moved has));
  }

  module _ (Must : ℕ → Type 0) where
    -- the word of a row has none of what is new in this word of the mask
    in_word : (k word mask_word found_word : ℕ) → IsWord mask k mask_word → IsWord found k found_word → found_word < 2 ^ 64 →
        ((bit : ℕ) → bit < 64 → Must (64 * k + bit) → has_bit word bit ≡ true) →
        bit_and word (bit_and mask_word (bit_not w64 found_word)) ≡ 0 → (n : ℕ) → n / 64 ≡ k → IsIn mask n → Must n → IsIn found n
    in_word k word mask_word found_word is_mask is_found small sound nothing n here in_mask must =
        shows_none_there (λ m. Must m × (m / 64 ≡ k)) mask found k word mask_word found_word
        (λ m before has both. absurd (let is = both.1 in omega (arith, before, is))) is_mask is_found small (λ bit within both. sound bit within both.0) nothing
        n (omega (arith, here)) in_mask (must, here)

    pub none_in_more : (words : List ℕ) (k word mask_word found_word : ℕ) → ShowsNothingNew (λ n. Must n × Contains words (n / 64)) mask found → IsWord mask k mask_word → IsWord found k found_word → found_word < 2 ^ 64 →
        ((bit : ℕ) → bit < 64 → Must (64 * k + bit) → has_bit word bit ≡ true) →
        bit_and word (bit_and mask_word (bit_not w64 found_word)) ≡ 0 → ShowsNothingNew (λ n. Must n × Contains (words ++ k ∷ []) (n / 64)) mask found
    none_in_more words k word mask_word found_word so_far is_mask is_found small sound nothing n in_mask must = ⊎_elim
        (λ earlier. so_far n in_mask (must.0, earlier))
        (λ here. in_word k word mask_word found_word is_mask is_found small sound nothing n (only_one k (n / 64) here) in_mask must.0)
        (Contains-append_cases words (k ∷ []) (n / 64) must.1)

    pub none_in_all : (words : List ℕ) → ShowsNothingNew (λ n. Contains words (n / 64) → ⊥) mask found → ShowsNothingNew (λ n. Must n × Contains words (n / 64)) mask found → ShowsNothingNew Must mask found
    none_in_all words others none n in_mask must = ⊎_elim
        (λ is. is)
        (λ clear. others n in_mask (λ has. absurd (let is : get_or found n false ≡ true = none n in_mask (must, has) in let never : true ≡ false = sym is ∙ clear in cc)))
        (in_or_clear found n)

-- ---- something new, or nothing

-- a bit of a word of the mask that is clear in the word of what was found
pub new_in_word : (mask found : List Bool) (k mask_word found_word : ℕ) → IsWord mask k mask_word → IsWord found k found_word → mask_word < 2 ^ 64 → found_word < 2 ^ 64 → (bit_and mask_word (bit_not w64 found_word) ≡ 0 → ⊥) → HasUnseen mask found
new_in_word mask found k mask_word found_word is_mask is_found mask_small found_small some =
    let at = some_bit (bit_and mask_word (bit_not w64 found_word)) (and_lt 64 mask_word (bit_not w64 found_word) mask_small (omega arith)) (omega (arith, some)) in
    let parts = and_parts (has_bit mask_word at.0) (has_bit (bit_not w64 found_word) at.0) (sym (has_bit-and mask_word (bit_not w64 found_word) at.0) ∙ at.2) in
    (64 * k + at.0, sym (is_mask at.0 at.1) ∙ parts.0, sym (is_found at.0 at.1) ∙ not-true (has_bit found_word at.0) (sym (has_bit-not found_word at.0 found_small at.1) ∙ parts.1))

pub none_new : (mask found : List Bool) → ShowsNothingNew (λ n. Unit {0}) mask found → HasUnseen mask found → ⊥
none_new mask found none new = not_in_if_clear found new.0 new.2 (none new.0 new.1 tt)
