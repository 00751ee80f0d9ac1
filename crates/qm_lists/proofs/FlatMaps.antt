-- Lists of lists, put one after another.
use Rattle.std.proofs.Common.{◌≡◌, List, [], ◌∷◌, ◌++◌, flat_map, refl, sym, ap, ◌∙◌}
use Rattle.std.proofs.lemmas.Grind.{flat_map-append}
use Rattle.std.proofs.lemmas.List.Concat.{flat_map-cons}

pub flat_map-flat_map : {A B C : Type 0} (h : B → List C) (f : A → List B) (xs : List A) → flat_map h (flat_map f xs) ≡ flat_map (λ x. flat_map h (f x)) xs
flat_map-flat_map h f [] = refl
flat_map-flat_map h f (x ∷ xs) =
    ap (flat_map h) (flat_map-cons f x xs)
    ∙ flat_map-append h (f x) (flat_map f xs)
    ∙ ap (λ rest. flat_map h (f x) ++ rest) (flat_map-flat_map h f xs)
    ∙ sym (flat_map-cons (λ y. flat_map h (f y)) x xs)
