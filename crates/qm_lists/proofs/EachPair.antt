-- What holds of each two elements of a list, the one that stands first taken first.
use Rattle.std.proofs.Common.{zero, suc, List, [], ◌∷◌, ◌++◌, map, arith}
use Rattle.std.specs.List.{All, AllPairs}
use Rattle.std.proofs.lemmas.List.Elements.{All-head, All-tail, All-append, All-map, All-weaker}

-- each two of a list, the one that stands first taken first
abbrev pub EachPair : {X : Type 0} → (X → X → Type 0) → List X → Type 0
EachPair R [] = Unit {0}
EachPair R (x ∷ xs) = All (R x) xs × EachPair R xs

pub pairs_append : {X : Type 0} (R : X → X → Type 0) (xs ys : List X) → EachPair R xs → EachPair R ys → All (λ x. All (R x) ys) xs → EachPair R (xs ++ ys)
pairs_append R [] ys first second across = second
pairs_append R (x ∷ xs) ys first second across =
    (All-append (R x) xs ys first.0 (All-head (λ x. All (R x) ys) x xs across), pairs_append R xs ys first.1 second (All-tail (λ x. All (R x) ys) x xs across))

pub pairs_map : {X Y : Type 0} (R : Y → Y → Type 0) (f : X → Y) (xs : List X) → EachPair (λ x y. R (f x) (f y)) xs → EachPair R (map f xs)
pairs_map R f [] each = tt
pairs_map R f (x ∷ xs) each = (All-map (R (f x)) f xs each.0, pairs_map R f xs each.1)

pub pairs_weaker : {X : Type 0} (R S : X → X → Type 0) → ((x y : X) → R x y → S x y) → (xs : List X) → EachPair R xs → EachPair S xs
pairs_weaker R S gives [] each = tt
pairs_weaker R S gives (x ∷ xs) each = (All-weaker (R x) (S x) (gives x) xs each.0, pairs_weaker R S gives xs each.1)

-- the same by places
pub pairs_by_place : {X : Type 0} (R : X → X → Type 0) (xs : List X) → EachPair R xs → AllPairs R xs
pairs_by_place R [] each i j d before within = absurd (omega arith)
pairs_by_place R (x ∷ xs) each zero zero d before within = absurd (omega arith)
pairs_by_place R (x ∷ xs) each zero (suc j) d before within = each.0 j d (omega arith)
pairs_by_place R (x ∷ xs) each (suc i) zero d before within = absurd (omega arith)
pairs_by_place R (x ∷ xs) each (suc i) (suc j) d before within = pairs_by_place R xs each.1 i j d (omega arith) (omega arith)
