-- Numbers as text, one after another.
use Rattle.std.proofs.Common.{◌≡◌, ◌∙◌, ◌<◌, ◌≤◌, ◌+◌, ℕ, List, [], ◌∷◌, ◌++◌, length, take, get_or, sym, ap, append_assoc, append-nil}
use Rattle.std.specs.Fmt.{decimal}
use Rattle.std.proofs.lemmas.List.{take_all, take_more}
use Rattle.qm_answers.specs.AnswerText.{spaced_numbers}

module _ {X : Type 0} (number : X → ℕ) where
  numbers_append : (all : List X) (next : X) → spaced_numbers number (all ++ next ∷ []) ≡ spaced_numbers number all ++ (32 ∷ decimal (number next))
  numbers_append [] next = ap (λ (text : List ℕ). 32 ∷ text) (append-nil (decimal (number next)))
  numbers_append (x ∷ all) next =
      ap (λ (text : List ℕ). 32 ∷ (decimal (number x) ++ text)) (numbers_append all next)
      ∙ ap (λ (text : List ℕ). 32 ∷ text) (sym (append_assoc (decimal (number x)) (spaced_numbers number all) (32 ∷ decimal (number next))))

  -- one number more, in text to which these are added
  pub next_number :
      (old so_far new : List ℕ) (all : List X) (k n : ℕ) (nothing : X) → k < length all → n ≡ number (get_or all k nothing) →
      so_far ≡ old ++ spaced_numbers number (take k all) → new ≡ so_far ++ (32 ∷ decimal n) → new ≡ old ++ spaced_numbers number (take (k + 1) all)
  next_number old so_far new all k n nothing within n_is before after =
      let next = get_or all k nothing in
      after
      ∙ ap (λ (m : ℕ). so_far ++ (32 ∷ decimal m)) n_is
      ∙ ap (λ (text : List ℕ). text ++ (32 ∷ decimal (number next))) before
      ∙ append_assoc old (spaced_numbers number (take k all)) (32 ∷ decimal (number next))
      ∙ ap (λ (text : List ℕ). old ++ text) (sym (numbers_append (take k all) next) ∙ ap (spaced_numbers number) (sym (take_more all k nothing within)))

  pub all_numbers :
      (old new : List ℕ) (all : List X) (k : ℕ) → new ≡ old ++ spaced_numbers number (take k all) → length all ≤ k → new ≡ old ++ spaced_numbers number all
  all_numbers old new all k is past = is ∙ ap (λ (whole : List X). old ++ spaced_numbers number whole) (take_all k all past)
