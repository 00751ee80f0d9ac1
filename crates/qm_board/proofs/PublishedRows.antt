-- Rows that are published word by word.
use Rattle.std.proofs.Common.{◌≡◌, ⊎_elim, ℕ, zero, suc, ◌+◌, ◌*◌, ◌<◌, Bool, List, [], ◌∷◌, ◌++◌, length, get_or, Contains, refl, sym, ap, ◌∙◌, subst, arith}
use Rattle.std.proofs.lemmas.Bool.{cases_lt}
use Rattle.std.proofs.lemmas.List.{get_or_append_left, get_or-append-add, length_push}
use Rattle.qm_lists.specs.Word.{IsWord}
use Rattle.qm_lists.specs.WorkList.{IsIn}
use Rattle.qm_lists.proofs.Elements.{Contains-first, Contains-later}
use Rattle.qm_contacts.specs.World.{World}
use Rattle.qm_sight.specs.RowsOfWorld.{IsSoundAt}
use Rattle.qm_shared_rows.specs.Findings.{Findings, ceiling, with_ceiling}
use Rattle.qm_shared_rows.specs.SharedRows.{HasAll, IsToBeKept}
use Rattle.qm_shared_rows.specs.Steps.{KnowsBound}
use Rattle.qm_board.specs.WorldSets.{IsInBoundAt, width_of, sets_of}
use Rattle.qm_board.specs.Published.{with_words, HasWordsUpTo}

-- a word of a sound row has all leaves in sight
pub word_has_all : (world : World) (portal k word : ℕ) (row : List Bool) → IsSoundAt world portal row → IsWord row k word → HasAll (IsToBeKept (sets_of world) portal) k word
word_has_all world portal k word row sound is_word bit less in_sight = is_word bit less ∙ sound in_sight.1.portal in_sight.1.portal_is (64 * k + bit) in_sight.1.sight

pub no_words : (portal : ℕ) (row : List Bool) (pass : Findings) → HasWordsUpTo portal row 0 pass pass
no_words portal row pass = record { words = []; one_each = refl; are_words = λ k less. absurd (omega (arith, less)); new_is = refl }

with_words_push : (portal k : ℕ) (words : List ℕ) (word : ℕ) (pass : Findings) → with_words portal k (words ++ word ∷ []) pass ≡ with_ceiling (ceiling portal (k + length words) word) (with_words portal k words pass)
with_words_push portal k [] word pass = let here : k ≡ k + 0 = omega arith in ap (λ (j : ℕ). with_ceiling (ceiling portal j word) pass) here
with_words_push portal k (first ∷ words) word pass =
    let next : (k + 1) + length words ≡ k + suc (length words) = omega arith in
    with_words_push portal (k + 1) words word (with_ceiling (ceiling portal k first) pass) ∙
    ap (λ (j : ℕ). with_ceiling (ceiling portal j word) (with_words portal (k + 1) words (with_ceiling (ceiling portal k first) pass))) next

pub one_word_more : (portal : ℕ) (row : List Bool) (count word next : ℕ) (old mid new : Findings) → HasWordsUpTo portal row count old mid → IsWord row count word → new ≡ with_ceiling (ceiling portal count word) mid → next ≡ count + 1 → HasWordsUpTo portal row next old new
one_word_more portal row count word next old mid new so_far is_word new_is next_is =
    let long = so_far.one_each in
    record {
      words = so_far.words ++ word ∷ [];
      one_each = let more = length_push so_far.words word in omega (arith, more, long, next_is);
      are_words = λ k less. ⊎_elim
          (λ before. subst (IsWord row k) (sym (get_or_append_left so_far.words (word ∷ []) 0 k (omega (arith, long, before)))) (so_far.are_words k before))
          (λ not.
          let here : k ≡ count = omega (arith, less, next_is, not) in
          let place : k ≡ length so_far.words + 0 = omega (arith, here, long) in
          let last : get_or (so_far.words ++ word ∷ []) k 0 ≡ word = ap (λ (j : ℕ). get_or (so_far.words ++ word ∷ []) j 0) place ∙ get_or-append-add so_far.words (word ∷ []) 0 0 in
          subst (IsWord row k) (sym last) (subst (λ (j : ℕ). IsWord row j word) (sym here) is_word))
          (cases_lt k count);
      new_is =
          let at : 0 + length so_far.words ≡ count = omega (arith, long) in
          new_is ∙ ap (with_ceiling (ceiling portal count word)) so_far.new_is ∙
          ap (λ (j : ℕ). with_ceiling (ceiling portal j word) (with_words portal 0 so_far.words old)) (sym at) ∙ sym (with_words_push portal 0 so_far.words word old);
    }

-- ---- each word is a ceiling

old_stay : (portal k : ℕ) (words : List ℕ) (pass : Findings) (q j word : ℕ) → Contains pass.ceilings (ceiling q j word) → Contains (with_words portal k words pass).ceilings (ceiling q j word)
old_stay portal k [] pass q j word listed = listed
old_stay portal k (first ∷ words) pass q j word listed = old_stay portal (k + 1) words (with_ceiling (ceiling portal k first) pass) q j word (Contains-later (ceiling portal k first) (ceiling q j word) pass.ceilings listed)

each_listed : (portal k : ℕ) (words : List ℕ) (pass : Findings) (j : ℕ) → j < length words → Contains (with_words portal k words pass).ceilings (ceiling portal (k + j) (get_or words j 0))
each_listed portal k [] pass j less = absurd (omega (arith, less))
each_listed portal k (first ∷ words) pass zero less =
    let here : k ≡ k + 0 = omega arith in
    subst (λ (i : ℕ). Contains (with_words portal (k + 1) words (with_ceiling (ceiling portal k first) pass)).ceilings (ceiling portal i first)) here
    (old_stay portal (k + 1) words (with_ceiling (ceiling portal k first) pass) portal k first (Contains-first (ceiling portal k first) pass.ceilings))
each_listed portal k (first ∷ words) pass (suc j) less =
    let next : (k + 1) + j ≡ k + suc j = omega arith in
    subst (λ (i : ℕ). Contains (with_words portal (k + 1) words (with_ceiling (ceiling portal k first) pass)).ceilings (ceiling portal i (get_or words j 0))) next
    (each_listed portal (k + 1) words (with_ceiling (ceiling portal k first) pass) j (omega (arith, less)))

-- what was found before stays, and each word of the row is a ceiling
module _ (portal : ℕ) (row : List Bool) (count : ℕ) (old new : Findings) (has : HasWordsUpTo portal row count old new) where
  pub ceilings_stay : (q j word : ℕ) → Contains old.ceilings (ceiling q j word) → Contains new.ceilings (ceiling q j word)
  ceilings_stay q j word listed = subst (λ (f : Findings). Contains f.ceilings (ceiling q j word)) (sym has.new_is) (old_stay portal 0 has.words old q j word listed)

  pub words_listed : (k : ℕ) → k < count → (word : ℕ) × IsWord row k word × Contains new.ceilings (ceiling portal k word)
  words_listed k less = (
    get_or has.words k 0,
    has.are_words k less,
    (let long = has.one_each in
        let at : 0 + k ≡ k = omega arith in
        subst (λ (f : Findings). Contains f.ceilings (ceiling portal k (get_or has.words k 0))) (sym has.new_is)
        (subst (λ (j : ℕ). Contains (with_words portal 0 has.words old).ceilings (ceiling portal j (get_or has.words k 0))) at (each_listed portal 0 has.words old k (omega (arith, less, long))))),
  )

-- where the row lies within the bound of its portal, the pass knows the bound
pub knows_bound : (world : World) (portal : ℕ) (row : List Bool) (old new : Findings) → HasWordsUpTo portal row (width_of world) old new → ((n : ℕ) → IsIn row n → IsInBoundAt world portal n) →
    (k : ℕ) → k < width_of world → KnowsBound (sets_of world) new portal k
knows_bound world portal row old new has bound k less =
    let listed = words_listed portal row (width_of world) old new has k less in
    record { word = listed.0; listed = listed.2; bound = λ bit bit_less is. bound (64 * k + bit) (sym (listed.1 bit bit_less) ∙ is) }
