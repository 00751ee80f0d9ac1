-- Lists read from their end, as stacks whose last element is the first to be taken.
use Rattle.std.proofs.Common.{◌≡◌, ◌-◌, List, [], ◌∷◌, ◌++◌, length, take, reverse, ap, ◌∙◌, arith, length-append}
use Rattle.std.proofs.lemmas.List.{append_assoc, reverse-append}
use Rattle.std.proofs.Math.Seq.{take-append_seam}

module _ {X : Type 0} where
  pub reverse-push : (xs : List X) (x : X) → reverse (xs ++ x ∷ []) ≡ x ∷ reverse xs
  reverse-push xs x = reverse-append xs (x ∷ [])

  pub reverse-cons : (x : X) (xs : List X) → reverse (x ∷ xs) ≡ reverse xs ++ x ∷ []
  reverse-cons x xs = reverse-append (x ∷ []) xs

  -- a stack without its last two
  pub reverse-but_two : (x y : X) (xs : List X) → take (length (reverse (x ∷ (y ∷ xs))) - 2) (reverse (x ∷ (y ∷ xs))) ≡ reverse xs
  reverse-but_two x y xs =
      let behind = y ∷ (x ∷ []) in
      let stack : reverse (x ∷ (y ∷ xs)) ≡ reverse xs ++ behind =
      reverse-cons x (y ∷ xs) ∙ ap (λ (rest : List X). rest ++ x ∷ []) (reverse-cons y xs) ∙ append_assoc (reverse xs) (y ∷ []) (x ∷ []) in
      let long : length (reverse xs ++ behind) - 2 ≡ length (reverse xs) = omega (arith, length-append (reverse xs) behind) in
      rw (stack, long) (take-append_seam (reverse xs) behind)
