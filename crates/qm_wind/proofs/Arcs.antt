-- Items in a row from a place on, of items in a circle.
use Rattle.std.proofs.Common.{◌≡◌, ℕ, zero, suc, ◌+◌, ◌-◌, ◌<◌, ◌≤◌, List, [], ◌∷◌, ◌++◌, length, take, drop, ap, refl, sym, ◌∙◌, arith}
use Rattle.std.proofs.lemmas.List.{append_assoc, length-append, length-drop, length-take, take-append-le, take-take, take_rest}
use Rattle.std.proofs.Math.Seq.{take-append-add}
use Rattle.qm_convex.specs.Rotation.{rotated_list}

pub arc_inner : {X : Type 0} (xs : List X) (start count : ℕ) → start ≤ length xs → count ≤ length xs - start →
    take count (rotated_list start xs) ≡ take count (drop start xs)
arc_inner xs start count h l = take-append-le count (drop start xs) (take start xs) (let e = length-drop start xs in omega arith)

pub arc_over : {X : Type 0} (xs : List X) (start count : ℕ) → start ≤ length xs → count ≤ length xs → length xs - start < count →
    take count (rotated_list start xs) ≡ take (length xs - start) (drop start xs) ++ take (count - (length xs - start)) xs
arc_over xs start count h l m =
    let more = count - (length xs - start) in
    let n = length-drop start xs in
    let e : count ≡ length (drop start xs) + more = omega arith in
    ap (λ k. take k (rotated_list start xs)) e ∙ take-append-add (drop start xs) (take start xs) more
    ∙ ap (λ ys. drop start xs ++ ys) (take-take more start xs (omega arith)) ∙ ap (λ ys. ys ++ take more xs) (sym (take_rest xs start))

-- what is added in two pieces
pub arc_added : {X : Type 0} (old mid new xs : List X) (start count : ℕ) → start ≤ length xs → count ≤ length xs → length xs - start < count →
    mid ≡ old ++ take (length xs - start) (drop start xs) → new ≡ mid ++ take (count - (length xs - start)) xs → new ≡ old ++ take count (rotated_list start xs)
arc_added old mid new xs start count h l m e f =
    f ∙ ap (λ ys. ys ++ take (count - (length xs - start)) xs) e
    ∙ append_assoc old (take (length xs - start) (drop start xs)) (take (count - (length xs - start)) xs)
    ∙ ap (λ ys. old ++ ys) (sym (arc_over xs start count h l m))

-- ---- a circle turned by one step more

take_one_more : {X : Type 0} (xs : List X) (i : ℕ) → take (suc i) xs ≡ take i xs ++ take 1 (drop i xs)
take_one_more [] zero = refl
take_one_more [] (suc i) = refl
take_one_more (x ∷ xs) zero = refl
take_one_more (x ∷ xs) (suc i) = ap (λ ys. x ∷ ys) (take_one_more xs i)

drop_one_more : {X : Type 0} (xs : List X) (i : ℕ) → drop (suc i) xs ≡ drop 1 (drop i xs)
drop_one_more [] zero = refl
drop_one_more [] (suc i) = refl
drop_one_more (x ∷ xs) zero = refl
drop_one_more (x ∷ xs) (suc i) = drop_one_more xs i

first_to_last : {X : Type 0} (xs ys : List X) → 0 < length xs → drop 1 (xs ++ ys) ++ take 1 (xs ++ ys) ≡ drop 1 xs ++ (ys ++ take 1 xs)
first_to_last [] ys some = absurd (omega arith)
first_to_last (x ∷ xs) ys some = append_assoc xs ys (x ∷ [])

pub turned_further : {X : Type 0} (xs : List X) (i : ℕ) → i < length xs → drop 1 (rotated_list i xs) ++ take 1 (rotated_list i xs) ≡ rotated_list (suc i) xs
turned_further xs i h =
    let n = length-drop i xs in
    first_to_last (drop i xs) (take i xs) (omega arith) ∙ (λ t. sym (drop_one_more xs i) t ++ sym (take_one_more xs i) t)

pub rotated_length : {X : Type 0} (xs : List X) (i : ℕ) → length (rotated_list i xs) ≡ length xs
rotated_length xs i = length-append (drop i xs) (take i xs) ∙ (let n = length-drop i xs in let m = length-take i xs in omega arith)
