-- Corners as text, one after another.
use Rattle.std.proofs.Common.{◌≡◌, ◌∙◌, ◌<◌, ◌≤◌, ◌+◌, ℕ, ℤ, List, [], ◌∷◌, ◌++◌, length, take, get_or, sym, ap, append_assoc, append-nil}
use Rattle.std.proofs.lemmas.List.{take_all, take_more}
use Rattle.qm_space.specs.Plane.{Plane}
use Rattle.qm_answers.specs.CornerText.{coordinates_of_corner, bracketed, spaced_corners}

module _ (planes : List Plane) (bound : ℕ) where
  abbrev words_of_one : List ℤ → List ℕ
  words_of_one corner = 32 ∷ bracketed (coordinates_of_corner planes bound corner)

  corners_append : (all : List (List ℤ)) (next : List ℤ) → spaced_corners planes bound (all ++ next ∷ []) ≡ spaced_corners planes bound all ++ words_of_one next
  corners_append [] next = append-nil (words_of_one next)
  corners_append (corner ∷ all) next =
      ap (λ (text : List ℕ). words_of_one corner ++ text) (corners_append all next)
      ∙ sym (append_assoc (words_of_one corner) (spaced_corners planes bound all) (words_of_one next))

  -- one corner more, in text to which these are added
  pub next_corner :
      (old so_far new : List ℕ) (all : List (List ℤ)) (k : ℕ) (corner nothing : List ℤ) → k < length all → corner ≡ get_or all k nothing →
      so_far ≡ old ++ spaced_corners planes bound (take k all) → new ≡ so_far ++ (32 ∷ bracketed (coordinates_of_corner planes bound corner)) → new ≡ old ++ spaced_corners planes bound (take (k + 1) all)
  next_corner old so_far new all k corner nothing within corner_is before after =
      let next = get_or all k nothing in
      after
      ∙ ap (λ (c : List ℤ). so_far ++ words_of_one c) corner_is
      ∙ ap (λ (text : List ℕ). text ++ words_of_one next) before
      ∙ append_assoc old (spaced_corners planes bound (take k all)) (words_of_one next)
      ∙ ap (λ (text : List ℕ). old ++ text) (sym (corners_append (take k all) next) ∙ ap (spaced_corners planes bound) (sym (take_more all k nothing within)))

  pub all_corners :
      (old new : List ℕ) (all : List (List ℤ)) (k : ℕ) → new ≡ old ++ spaced_corners planes bound (take k all) → length all ≤ k → new ≡ old ++ spaced_corners planes bound all
  all_corners old new all k is past = is ∙ ap (λ (whole : List (List ℤ)). old ++ spaced_corners planes bound whole) (take_all k all past)
