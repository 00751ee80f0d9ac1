-- A flood by a work list: how it begins, what passing a place keeps, that it ends, and what it has found then.
use Rattle.std.proofs.Common.{◌≡◌, ℕ, zero, suc, ◌-◌, ◌++◌, ◌<◌, ◌≤◌, eqb, Bool, true, false, List, [], ◌∷◌, length, get_or, slice_get, Some, ◌⊎◌, inl, inr, ⊎_elim, sym, ap, ◌∙◌, subst, arith, ◌↔◌}
use Rattle.std.specs.List.{Contains, IsDistinct}
use Rattle.std.proofs.lemmas.Bool.{cases_eq, cases_Bool, eqb-true}
use Rattle.std.proofs.lemmas.Map.Steps.{length-le_from_distinct_below}
use Rattle.std.proofs.lemmas.Map.Views.{Contains-from_any}
use Rattle.std.proofs.lemmas.Option.{slice_get_within, slice_get-get_or}
use Rattle.std.proofs.lemmas.List.Elements.{Contains-append_left, Contains-append_right, Contains-append_cases}
use Rattle.qm_lists.specs.Reach.{Reach, start, onward}
use Rattle.qm_lists.specs.WorkList.{IsIn}
use Rattle.qm_lists.proofs.Elements.{Contains-at}
use Rattle.qm_lists.proofs.Places.{slice_get-append_within}
use Rattle.qm_lists.proofs.Reached.{least}

-- The places found so far are listed as they come, and none is taken off: the first of them, up to a number, are passed,
-- which means that what they go to is found.

-- what is found is reached, and what begins, or what a passed place goes to, is found
pub record IsFlood (begins : ℕ → Type 0) (goes : ℕ → ℕ → Type 0) (row : List Bool) (found : List ℕ) (passed : ℕ) : Type 0 where
  pub begun : (place : ℕ) → begins place → IsIn row place
  pub reached : (place : ℕ) → IsIn row place → Reach begins goes place
  pub closed : (i from to : ℕ) → i < passed → slice_get found i ≡ Some from → goes from to → IsIn row to
  pub listed : (place : ℕ) → IsIn row place → Contains found place
  pub only : (place : ℕ) → Contains found place → IsIn row place
  pub once : IsDistinct eqb found

-- what passing a place does: what it goes to is found, and nothing else is gained
pub record PassesOn (goes : ℕ → ℕ → Type 0) (from : ℕ) (old_row new_row : List Bool) (old_found new_found : List ℕ) : Type 0 where
  pub gained : List ℕ
  pub same_length : length new_row ≡ length old_row
  pub after_old : new_found ≡ old_found ++ gained
  pub stays : (place : ℕ) → IsIn old_row place → IsIn new_row place
  pub found_all : (to : ℕ) → goes from to → IsIn new_row to
  pub gained_behind : (place : ℕ) → Contains gained place → goes from place
  pub gained_in : (place : ℕ) → Contains gained place → IsIn new_row place
  pub gained_only : (place : ℕ) → IsIn new_row place → (IsIn old_row place → ⊥) → Contains gained place
  pub once : IsDistinct eqb new_found

-- a row with what begins, whose places are listed once, is a flood that has passed nothing
pub flood_begins : (begins : ℕ → Type 0) (goes : ℕ → ℕ → Type 0) (row : List Bool) (found : List ℕ) → ((place : ℕ) → begins place ↔ IsIn row place) → ((place : ℕ) → IsIn row place ↔ Contains found place) → IsDistinct eqb found → IsFlood begins goes row found 0
flood_begins begins goes row found starts lists once = record {
  begun = λ place is. (starts place).0 is;
  reached = λ place is. start ((starts place).1 is);
  closed = λ i from to before at edge. absurd (omega arith);
  listed = λ place is. (lists place).0 is;
  only = λ place is. (lists place).1 is;
  once = once;
}

-- the place that is passed is reached, and so is all that it goes to
pub flood_passes : (begins : ℕ → Type 0) (goes : ℕ → ℕ → Type 0) (old_row new_row : List Bool) (old_found new_found : List ℕ) (passed from : ℕ) → IsFlood begins goes old_row old_found passed → slice_get old_found passed ≡ Some from → PassesOn goes from old_row new_row old_found new_found → IsFlood begins goes new_row new_found (suc passed)
flood_passes begins goes old_row new_row old_found new_found passed from flood at step = record {
  begun = λ place is. step.stays place (flood.begun place is);
  reached = λ place is. ⊎_elim (λ was. flood.reached place was) (λ gained. behind place gained) (in_either place is);
  closed = λ i one to before at_i edge. closed_at i one to before at_i edge (cases_eq i passed);
  listed = λ place is. ⊎_elim (λ was. subst (λ (l : List ℕ). Contains l place) (sym step.after_old) (Contains-append_left old_found step.gained place (flood.listed place was))) (λ gained. subst (λ (l : List ℕ). Contains l place) (sym step.after_old) (Contains-append_right old_found step.gained place gained)) (in_either place is);
  only = λ place is. ⊎_elim (λ was. step.stays place (flood.only place was)) (λ gained. step.gained_in place gained) (Contains-append_cases old_found step.gained place (subst (λ (l : List ℕ). Contains l place) step.after_old is));
  once = step.once;
}
  where
    behind : (place : ℕ) → Contains step.gained place → Reach begins goes place
    behind place gained = onward (flood.reached from (flood.only from (Contains-at old_found passed from at))) (step.gained_behind place gained)

    in_either : (place : ℕ) → IsIn new_row place → IsIn old_row place ⊎ Contains step.gained place
    in_either place is =
        ⊎_elim (λ was. inl was) (λ not_was. inr (step.gained_only place is (λ was. let e : true ≡ false = sym was ∙ not_was in cc))) (cases_Bool (get_or old_row place false))

    within_old : (i one : ℕ) → i < suc passed → slice_get new_found i ≡ Some one → slice_get old_found i ≡ Some one
    within_old i one before at_i =
        let room = slice_get_within old_found passed from at in
        slice_get-append_within old_found step.gained one i (omega arith) (subst (λ (l : List ℕ). slice_get l i ≡ Some one) step.after_old at_i)

    closed_at : (i one to : ℕ) → i < suc passed → slice_get new_found i ≡ Some one → goes one to → (i ≡ passed) ⊎ (i ≡ passed → ⊥) → IsIn new_row to
    closed_at i one to before at_i edge (inl here) =
        let there : slice_get old_found passed ≡ Some one = subst (λ (j : ℕ). slice_get old_found j ≡ Some one) here (within_old i one before at_i) in
        let both : Some from ≡ Some one = sym at ∙ there in
        let same : from ≡ one = cc in
        step.found_all to (subst (λ (f : ℕ). goes f to) (sym same) edge)
    closed_at i one to before at_i edge (inr other) =
        step.stays to (flood.closed i one to (omega arith) (within_old i one before at_i) edge)

-- where all that was found is passed, what was found is what is reached
pub flood_ends : (begins : ℕ → Type 0) (goes : ℕ → ℕ → Type 0) (row : List Bool) (found : List ℕ) → IsFlood begins goes row found (length found) → (place : ℕ) → IsIn row place ↔ Reach begins goes place
flood_ends begins goes row found flood place = (
  λ is. flood.reached place is,
  λ reached. least begins goes (IsIn row) flood.begun closed place reached,
)
  where
    closed : (from to : ℕ) → IsIn row from → goes from to → IsIn row to
    closed from to is edge =
        let listed = flood.listed from is in
        let within = listed.1 in
        flood.closed listed.0 from to within (slice_get-get_or found listed.0 from within ∙ ap Some listed.2) edge

-- a place of the row lies within it
pub place_within : (row : List Bool) (place : ℕ) → IsIn row place → place < length row
place_within [] place is = absurd (let never : false ≡ true = is in cc)
place_within (b ∷ row) zero is = omega arith
place_within (b ∷ row) (suc place) is = let within = place_within row place is in omega arith

-- no more is found than the row has places
pub found_at_most : (begins : ℕ → Type 0) (goes : ℕ → ℕ → Type 0) (row : List Bool) (found : List ℕ) (passed : ℕ) → IsFlood begins goes row found passed → length found ≤ length row
found_at_most begins goes row found passed flood =
    length-le_from_distinct_below found (length row) flood.once (λ place listed. place_within row place (flood.only place (Contains-from_any same place found listed)))
  where
    same : (a b : ℕ) → eqb a b ≡ true → a ≡ b
    same a b e = eqb-true a b e

-- so the places of the row that are not passed yet grow fewer with each that is
pub fewer_left : (begins : ℕ → Type 0) (goes : ℕ → ℕ → Type 0) (row : List Bool) (found : List ℕ) (passed : ℕ) → IsFlood begins goes row found passed → passed < length found → length row - suc passed < length row - passed
fewer_left begins goes row found passed flood left =
    let room = found_at_most begins goes row found passed flood in omega arith
