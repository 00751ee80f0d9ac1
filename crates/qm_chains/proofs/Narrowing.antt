-- Masks are narrowed word by word.
use Rattle.std.proofs.Common.{◌≡◌, ⊎_elim, ℕ, ◌+◌, ◌*◌, ◌/◌, ◌%◌, ◌<◌, ◌≤◌, Bool, true, false, ◌&&◌, List, length, get_or, refl, sym, ap, ◌∙◌, subst, arith}
use Rattle.std.proofs.lemmas.Bool.{cases_eq}
use Rattle.qm_lists.specs.Word.{has_bit, IsWord, IsMasked}
use Rattle.qm_lists.proofs.Bits.{has_bit-zero}
use Rattle.qm_lists.proofs.Cases.{both_yes}
use Rattle.qm_lists.proofs.WorkLists.{place_within}
use Rattle.qm_chains.specs.inner.Narrowing.{IsNarrowed, IsNarrowedUpTo}

both : (a b : Bool) → a ≡ true → b ≡ true → (a && b) ≡ true
both a b first second = rw (first, second) refl

module _ (Must Can : ℕ → Type 0) where
  pub narrowed_none : (row : List Bool) → IsNarrowedUpTo Must Can 0 row row
  narrowed_none row = record {
    same_length = refl;
    within = λ n is. (is, λ before. absurd (omega (arith, before)));
    keeps = λ n is must. is;
  }

  module _ (words word : ℕ) (old row new : List Bool) (so_far : IsNarrowedUpTo Must Can words old row) (masked : IsMasked row new words word) where
    -- a place of the word
    at_word : (n : ℕ) → n / 64 ≡ words → get_or new n false ≡ (get_or row n false && has_bit word (n % 64))
    at_word n here =
        let bit : n % 64 < 64 = omega arith in
        let place : 64 * words + n % 64 ≡ n = omega (arith, here) in
        subst (λ (m : ℕ). get_or new m false ≡ (get_or row m false && has_bit word (n % 64))) place (masked.in_word (n % 64) bit)

    pub narrowed_more : ((bit : ℕ) → bit < 64 → has_bit word bit ≡ true → Can (64 * words + bit)) →
        ((bit : ℕ) → bit < 64 → Must (64 * words + bit) → has_bit word bit ≡ true) →
        IsNarrowedUpTo Must Can (words + 1) old new
    narrowed_more below sound = record {
      same_length = masked.same_length ∙ so_far.same_length;
      within = λ n is. ⊎_elim
          (λ here.
          let parts = both_yes (get_or row n false) (has_bit word (n % 64)) (sym (at_word n here) ∙ is) in
          let bit : n % 64 < 64 = omega arith in
          let place : 64 * words + n % 64 ≡ n = omega (arith, here) in
          ((so_far.within n parts.0).0, λ before. subst Can place (below (n % 64) bit parts.1)))
          (λ other.
          let its = so_far.within n (sym (masked.elsewhere n other) ∙ is) in
          (its.0, λ before. its.1 (omega (arith, before, other))))
          (cases_eq (n / 64) words);
      keeps = λ n is must. ⊎_elim
          (λ here.
          let bit : n % 64 < 64 = omega arith in
          let place : n ≡ 64 * words + n % 64 = omega (arith, here) in
          at_word n here ∙ both (get_or row n false) (has_bit word (n % 64)) (so_far.keeps n is must) (sound (n % 64) bit (subst Must place must)))
          (λ other. masked.elsewhere n other ∙ so_far.keeps n is must)
          (cases_eq (n / 64) words);
    }

  -- a word of which the mask has no place
  pub narrowed_clear : (words : ℕ) (old row : List Bool) → IsNarrowedUpTo Must Can words old row → IsWord row words 0 → IsNarrowedUpTo Must Can (words + 1) old row
  narrowed_clear words old row so_far clear = record {
    same_length = so_far.same_length;
    within = λ n is. (
      (so_far.within n is).0,
      λ before. ⊎_elim
          (λ here.
          let bit : n % 64 < 64 = omega arith in
          let place : 64 * words + n % 64 ≡ n = omega (arith, here) in
          let never : false ≡ true = sym (has_bit-zero (n % 64)) ∙ clear (n % 64) bit ∙ ap (λ (m : ℕ). get_or row m false) place ∙ is in
          absurd (let e : false ≡ true = never in cc))
          (λ other. (so_far.within n is).1 (omega (arith, before, other)))
          (cases_eq (n / 64) words),
    );
    keeps = so_far.keeps;
  }

  pub narrowed_all : (words : ℕ) (old new : List Bool) → length old ≤ 64 * words → IsNarrowedUpTo Must Can words old new → IsNarrowed Must Can old new
  narrowed_all words old new enough so_far = record {
    same_length = so_far.same_length;
    within = λ n is.
        let long = so_far.same_length in
        let inside = place_within new n is in
        let before : n / 64 < words = omega (arith, enough, long, inside) in
        ((so_far.within n is).0, (so_far.within n is).1 before);
    keeps = so_far.keeps;
  }

-- by what an answer must have, and can have, at least and at most
pub narrowed_as : (Must Can More Less : ℕ → Type 0) (old new : List Bool) → ((n : ℕ) → More n → Must n) → ((n : ℕ) → Can n → Less n) → IsNarrowed Must Can old new → IsNarrowed More Less old new
narrowed_as Must Can More Less old new must can narrowed = record {
  same_length = narrowed.same_length;
  within = λ n is. ((narrowed.within n is).0, can n (narrowed.within n is).1);
  keeps = λ n is more. narrowed.keeps n is (must n more);
}
