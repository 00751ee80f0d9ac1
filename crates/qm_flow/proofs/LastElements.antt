-- Lists whose last element is read and set by its place.
use Rattle.std.proofs.Common.{◌≡◌, ℕ, ◌-◌, ◌<◌, List, [], ◌∷◌, ◌++◌, length, get_or, set, refl, sym, ap, ◌∙◌, arith}
use Rattle.std.proofs.lemmas.List.{length-append}

-- an element was pushed
pub pushed_to : {A : Type 0} (before old new : List A) (x : A) → new ≡ old ++ x ∷ [] → old ≡ before → new ≡ before ++ x ∷ []
pushed_to before old new x is same = is ∙ ap (λ (all : List _). all ++ x ∷ []) same

-- the element at this place is the last one
pub record IsLastAt {A : Type 0} (xs : List A) (place : ℕ) (last : A) : Type 0 where
  pub below : List A
  pub ends : xs ≡ below ++ last ∷ []
  pub place_is : place ≡ length below

module _ {A : Type 0} where
  -- a list that is not empty ends with its last element
  split_last : (xs : List A) → 0 < length xs → (below : List A) × (last : A) × (xs ≡ below ++ last ∷ [])
  split_last [] some = absurd (omega (arith, some))
  split_last (x ∷ []) some = ([], x, refl)
  split_last (x ∷ y ∷ xs) some =
      let rest = split_last (y ∷ xs) (omega arith) in
      (x ∷ rest.0, rest.1, ap (λ (all : List A). x ∷ all) rest.2)

  read_last : (below : List A) (last d : A) → get_or (below ++ last ∷ []) (length below) d ≡ last
  read_last [] last d = refl
  read_last (x ∷ below) last d = read_last below last d

  set_last : (below : List A) (last new : A) → set (below ++ last ∷ []) (length below) new ≡ below ++ new ∷ []
  set_last [] last new = refl
  set_last (x ∷ below) last new = ap (λ (all : List A). x ∷ all) (set_last below last new)

  read_at : (xs : List A) (place : ℕ) (last : A) → IsLastAt xs place last → (d : A) → get_or xs place d ≡ last
  read_at xs place last at d = ap (λ (all : List A). get_or all place d) at.ends ∙ ap (λ (n : ℕ). get_or (at.below ++ last ∷ []) n d) at.place_is ∙ read_last at.below last d

  pub set_at : (xs : List A) (place : ℕ) (last : A) (at : IsLastAt xs place last) (new : A) → set xs place new ≡ at.below ++ new ∷ []
  set_at xs place last at new = ap (λ (all : List A). set all place new) at.ends ∙ ap (λ (n : ℕ). set (at.below ++ last ∷ []) n new) at.place_is ∙ set_last at.below last new

  pub read_set_at : (xs : List A) (place : ℕ) (last : A) → IsLastAt xs place last → (new d : A) → get_or (set xs place new) place d ≡ new
  read_set_at xs place last at new d = read_at (set xs place new) place new (record { below = at.below; ends = set_at xs place last at new; place_is = at.place_is }) d

  -- so the one that is read at the place before the count of all is
  pub last_read : (xs : List A) (count : ℕ) → count ≡ length xs → 0 < length xs → (x d : A) → x ≡ get_or xs (count - 1) d → IsLastAt xs (count - 1) x
  last_read xs count counted some x d is =
      let parts = split_last xs some in
      let long = ap length parts.2 ∙ length-append parts.0 (parts.1 ∷ []) in
      let there : count - 1 ≡ length parts.0 = omega (arith, long, counted) in
      let at : IsLastAt xs (count - 1) parts.1 = record { below = parts.0; ends = parts.2; place_is = there } in
      record {
        below = parts.0;
        ends = parts.2 ∙ ap (λ (a : A). parts.0 ++ a ∷ []) (sym (is ∙ read_at xs (count - 1) parts.1 at d));
        place_is = there;
      }
