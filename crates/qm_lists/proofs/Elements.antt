-- What holds of each element of a list holds of each element of its parts.
use Rattle.std.proofs.Common.{◌≡◌, Bool, true, ℕ, zero, suc, List, [], ◌∷◌, ◌++◌, length, map, take, drop, slice_get, Some, refl, ap, subst, ◌∙◌, arith, ◌⊎◌, ⊎_elim, inl, inr}
use Rattle.std.specs.List.{All, AllByRecursion, Contains, filter}
use Rattle.std.proofs.lemmas.List.{take_at, drop_at, take-append-drop}
use Rattle.std.proofs.lemmas.List.Elements.{All-take, All-drop, All-nil, All-cons, All-head, All-tail, Contains-append_left}
use Rattle.std.proofs.lemmas.Option.{slice_get_within, get_or_from_slice_get}
use Rattle.qm_lists.proofs.Cases.{by_cases}

pub All-first_part : {X : Type 0} (P : X → Type 0) (xs ys : List X) → All P (xs ++ ys) → All P xs
All-first_part P xs ys all = subst (All P) (take_at xs ys (length xs) refl) (All-take P (length xs) (xs ++ ys) all)

pub All-last_part : {X : Type 0} (P : X → Type 0) (xs ys : List X) → All P (xs ++ ys) → All P ys
All-last_part P xs ys all = subst (All P) (drop_at xs ys (length xs) refl) (All-drop P (length xs) (xs ++ ys) all)

pub AllByRecursion-append : {X : Type 0} (P : X → Type 0) (xs ys : List X) → AllByRecursion P xs → AllByRecursion P ys → AllByRecursion P (xs ++ ys)
AllByRecursion-append P [] ys first second = second
AllByRecursion-append P (x ∷ xs) ys first second = (first.0, AllByRecursion-append P xs ys first.1 second)

pub AllByRecursion-parts : {X : Type 0} (P : X → Type 0) (xs ys : List X) → AllByRecursion P (xs ++ ys) → AllByRecursion P xs × AllByRecursion P ys
AllByRecursion-parts P [] ys all = (tt, all)
AllByRecursion-parts P (x ∷ xs) ys all =
    let rest = AllByRecursion-parts P xs ys all.1 in ((all.0, rest.0), rest.1)

-- what holds of each element that a function gives
pub All-from_map : {X Y : Type 0} (P : X → Type 0) (f : Y → X) (ys : List Y) → All P (map f ys) → All (λ y. P (f y)) ys
All-from_map P f [] all = All-nil (λ y. P (f y))
All-from_map P f (y ∷ ys) all =
    All-cons (λ y. P (f y)) y ys (All-head P (f y) (map f ys) all) (All-from_map P f ys (All-tail P (f y) (map f ys) all))

-- an empty list has no element
pub Contains-nil : {X : Type 0} (x : X) → Contains [] x → ⊥
Contains-nil x among = absurd (omega (arith, among.1))

-- what stands at a place is an element
pub Contains-at : {X : Type 0} (xs : List X) (i : ℕ) (x : X) → slice_get xs i ≡ Some x → Contains xs x
Contains-at xs i x at = (i, slice_get_within xs i x at, get_or_from_slice_get xs i x x at)

-- ---- the elements of a list with one element before it

pub Contains-first : {X : Type 0} (x : X) (xs : List X) → Contains (x ∷ xs) x
Contains-first x xs = (0, omega arith, refl)

pub Contains-later : {X : Type 0} (x y : X) (xs : List X) → Contains xs y → Contains (x ∷ xs) y
Contains-later x y xs (k, within, is) = (suc k, omega arith, is)

pub Contains-cons_cases : {X : Type 0} (x y : X) (xs : List X) → Contains (x ∷ xs) y → (x ≡ y) ⊎ Contains xs y
Contains-cons_cases x y xs (zero, within, is) = inl is
Contains-cons_cases x y xs (suc k, within, is) = inr (k, omega arith, is)

-- ---- the elements that a function gives

pub Contains-map : {X Y : Type 0} (f : X → Y) (xs : List X) (x : X) → Contains xs x → Contains (map f xs) (f x)
Contains-map f [] x (k, within, is) = absurd (omega arith)
Contains-map f (first ∷ xs) x (zero, within, is) = (0, omega arith, ap f is)
Contains-map f (first ∷ xs) x (suc k, within, is) = Contains-later (f first) (f x) (map f xs) (Contains-map f xs x (k, omega arith, is))

pub Contains-map_from : {X Y : Type 0} (f : X → Y) (xs : List X) (y : Y) → Contains (map f xs) y → (x : X) × Contains xs x × (f x ≡ y)
Contains-map_from f [] y (k, within, is) = absurd (omega arith)
Contains-map_from f (first ∷ xs) y (zero, within, is) = (first, Contains-first first xs, is)
Contains-map_from f (first ∷ xs) y (suc k, within, is) =
    let found = Contains-map_from f xs y (k, omega arith, is) in
    (found.0, Contains-later first found.0 xs found.1, found.2)

-- ---- the elements that pass a test

pub Contains-filter : {X : Type 0} (test : X → Bool) (xs : List X) (x : X) → Contains xs x → test x ≡ true → Contains (filter test xs) x
Contains-filter test [] x among passes = absurd (Contains-nil x among)
Contains-filter {X = X} test (first ∷ xs) x among passes = ⊎_elim
    (λ same. let yes : test first ≡ true = ap test same ∙ passes in rw yes (subst (λ (y : X). Contains (first ∷ filter test xs) y) same (Contains-first first (filter test xs))))
    (λ later. let rest = Contains-filter test xs x later passes in
    by_cases (test first) (λ is. rw is (Contains-later first x (filter test xs) rest)) (λ is. rw is rest))
    (Contains-cons_cases first x xs among)

-- ---- first elements

pub Contains-from_take : {X : Type 0} (n : ℕ) (xs : List X) (x : X) → Contains (take n xs) x → Contains xs x
Contains-from_take {X = X} n xs x among = subst (λ (ys : List X). Contains ys x) (take-append-drop n xs) (Contains-append_left (take n xs) (drop n xs) x among)
