-- Steps found breadth first: how that begins, what passing a place keeps, and what is found at the end.
use Rattle.std.proofs.Common.{◌≡◌, ℕ, zero, suc, ◌+◌, ◌<◌, ◌≤◌, eqb, true, List, [], ◌∷◌, length, slice_get, Some, ◌⊎◌, inl, inr, ⊎_elim, sym, ap, ◌∙◌, subst, arith, ◌↔◌}
use Rattle.std.specs.List.{Contains, IsDistinct}
use Rattle.std.proofs.lemmas.Bool.{cases_eq, cases_lt, eqb-true}
use Rattle.std.proofs.lemmas.Map.Steps.{length-le_from_distinct_below}
use Rattle.std.proofs.lemmas.Map.Views.{Contains-from_any}
use Rattle.std.proofs.lemmas.Option.{slice_get_within, slice_get-get_or}
use Rattle.std.proofs.lemmas.List.Elements.{Contains-append_left, Contains-append_right, Contains-append_cases}
use Rattle.qm_lists.specs.Reach.{Reach, start, onward}
use Rattle.qm_lists.specs.inner.Steps.{steps_of, AreSteps, IsSpread, SpreadsOn}
use Rattle.qm_lists.proofs.Elements.{Contains-at}
use Rattle.qm_lists.proofs.Places.{slice_get-append_within, slice_get-append_cases, slice_get-append_old}
use Rattle.qm_lists.proofs.Reached.{least}

-- a place of a list
place_of : (found : List ℕ) (place : ℕ) → Contains found place → (i : ℕ) × (slice_get found i ≡ Some place)
place_of found place listed = (listed.0, slice_get-get_or found listed.0 place listed.1 ∙ ap Some listed.2)

-- what begins has one step, and nothing else has any
pub spread_begins : (begins : ℕ → Type 0) (goes : ℕ → ℕ → Type 0) (steps found : List ℕ) → ((place : ℕ) → steps_of steps place ≤ 1) → ((place : ℕ) → begins place ↔ (0 < steps_of steps place)) → ((place : ℕ) → (0 < steps_of steps place) ↔ Contains found place) → IsDistinct eqb found → IsSpread begins goes steps found 0
spread_begins begins goes steps found small starts lists once = record {
  listed = lists;
  reached = λ place some. start ((starts place).1 some);
  first = λ place. ((λ is. (starts place).1 (omega (arith, is))), (λ is. let some = (starts place).0 is in omega (arith, small place, some)));
  behind = λ place n is. absurd (omega (arith, is, small place));
  closed = λ i from to before at edge. absurd (omega (arith, before));
  ascends = λ i j from to before at there. let some = (lists to).1 (Contains-at found j to there) in omega (arith, small from, some);
  near = λ next place at listed. let some = (lists next).1 (Contains-at found 0 next at) in omega (arith, small place, some);
  low = λ i place at. omega (arith, small place);
  once = once;
}

module _ (begins : ℕ → Type 0) (goes : ℕ → ℕ → Type 0) (old_steps new_steps old_found new_found : List ℕ) (passed from : ℕ) (spread : IsSpread begins goes old_steps old_found passed) (at : slice_get old_found passed ≡ Some from) (step : SpreadsOn goes from old_steps new_steps old_found new_found) where
  some_from : 0 < steps_of old_steps from
  some_from = (spread.listed from).1 (Contains-at old_found passed from at)

  same_from : steps_of new_steps from ≡ steps_of old_steps from
  same_from = step.stays from some_from

  -- what has steps now had them, or is gained
  in_either : {P : Type 0} (place : ℕ) → 0 < steps_of new_steps place → (0 < steps_of old_steps place → steps_of new_steps place ≡ steps_of old_steps place → P) → (Contains step.gained place → steps_of new_steps place ≡ steps_of new_steps from + 1 → P) → P
  in_either place some was gained = ⊎_elim
      (λ had. was had (step.stays place had))
      (λ new. gained new (omega (arith, step.gained_steps place new, same_from)))
      (step.gained_only place some)

  in_new : (place : ℕ) → Contains old_found place ⊎ Contains step.gained place → Contains new_found place
  in_new place either = subst (λ (l : List ℕ). Contains l place) (sym step.after_old)
      (⊎_elim (λ was. Contains-append_left old_found step.gained place was) (λ new. Contains-append_right old_found step.gained place new) either)

  from_new : (place : ℕ) → Contains new_found place → Contains old_found place ⊎ Contains step.gained place
  from_new place listed = Contains-append_cases old_found step.gained place (subst (λ (l : List ℕ). Contains l place) step.after_old listed)

  listed_now : (place : ℕ) → (0 < steps_of new_steps place) ↔ Contains new_found place
  listed_now place = (
    (λ some. in_either place some (λ had same. in_new place (inl ((spread.listed place).0 had))) (λ new is. in_new place (inr new))),
    (λ listed. ⊎_elim
        (λ was. let had = (spread.listed place).1 was in omega (arith, had, step.stays place had))
        (λ new. omega (arith, step.gained_steps place new))
        (from_new place listed)),
  )

  reached_now : (place : ℕ) → 0 < steps_of new_steps place → Reach begins goes place
  reached_now place some = in_either place some
      (λ had same. spread.reached place had)
      (λ new is. onward (spread.reached from some_from) (step.gained_behind place new))

  first_now : (place : ℕ) → (steps_of new_steps place ≡ 1) ↔ begins place
  first_now place = (
    (λ one. in_either place (omega (arith, one))
        (λ had same. (spread.first place).0 (sym same ∙ one))
        (λ new is. absurd (omega (arith, one, is, same_from, some_from)))),
    (λ is. let one = (spread.first place).1 is in step.stays place (omega (arith, one)) ∙ one),
  )

  behind_now : (place n : ℕ) → steps_of new_steps place ≡ n + 2 → (before : ℕ) × (steps_of new_steps before ≡ n + 1) × goes before place
  behind_now place n is = in_either place (omega (arith, is))
      (λ had same.
      let found = spread.behind place n (sym same ∙ is) in
      (found.0, step.stays found.0 (omega (arith, found.1)) ∙ found.1, found.2))
      (λ new is_new. (from, omega (arith, is, is_new), step.gained_behind place new))

  -- at a place of the list as it is now stands what stood there, or what is gained
  at_place : {P : Type 0} (i place : ℕ) → slice_get new_found i ≡ Some place → (slice_get old_found i ≡ Some place → P) → (length old_found ≤ i → Contains step.gained place → P) → P
  at_place i place at_i was gained = ⊎_elim
      was
      (λ new. gained (omega (arith, new.1)) (Contains-at step.gained new.0 place new.2))
      (slice_get-append_cases old_found step.gained place i (subst (λ (l : List ℕ). slice_get l i ≡ Some place) step.after_old at_i))

  -- no place has more steps than one past the place that is passed
  near_from : (place : ℕ) → 0 < steps_of new_steps place → steps_of new_steps place ≤ steps_of new_steps from + 1
  near_from place some = in_either place some
      (λ had same. let close = spread.near from place at ((spread.listed place).0 had) in omega (arith, same, same_from, close))
      (λ new is. omega (arith, is))

  room : passed < length old_found
  room = slice_get_within old_found passed from at

  closed_now : (i one to : ℕ) → i < suc passed → slice_get new_found i ≡ Some one → goes one to → (0 < steps_of new_steps to) × (steps_of new_steps to ≤ steps_of new_steps one + 1)
  closed_now i one to before at_i edge = ⊎_elim
      (λ here.
      let there : slice_get old_found passed ≡ Some one = subst (λ (j : ℕ). slice_get old_found j ≡ Some one) here was in
      let both : Some from ≡ Some one = sym at ∙ there in
      let same : from ≡ one = cc in
      let some = step.found_all to (subst (λ (f : ℕ). goes f to) (sym same) edge) in
      (some, subst (λ (f : ℕ). steps_of new_steps to ≤ steps_of new_steps f + 1) same (near_from to some)))
      (λ other.
      let closed = spread.closed i one to (omega (arith, before, other)) was edge in
      let had_one = (spread.listed one).1 (Contains-at old_found i one was) in
      let same_to = step.stays to closed.0 in
      let same_one = step.stays one had_one in
      (omega (arith, closed.0, same_to), omega (arith, closed.1, same_to, same_one)))
      (cases_eq i passed)
    where
      was : slice_get old_found i ≡ Some one
      was = slice_get-append_within old_found step.gained one i (omega (arith, before, room)) (subst (λ (l : List ℕ). slice_get l i ≡ Some one) step.after_old at_i)

  ascends_now : (i j one other : ℕ) → i ≤ j → slice_get new_found i ≡ Some one → slice_get new_found j ≡ Some other → steps_of new_steps one ≤ steps_of new_steps other
  ascends_now i j one other before at_i at_j = at_place j other at_j
      (λ was_j. at_place i one at_i
      (λ was_i.
      let less = spread.ascends i j one other before was_i was_j in
      let had_one = (spread.listed one).1 (Contains-at old_found i one was_i) in
      let had_other = (spread.listed other).1 (Contains-at old_found j other was_j) in
      omega (arith, less, step.stays one had_one, step.stays other had_other))
      (λ past new. absurd (let within = slice_get_within old_found j other was_j in omega (arith, past, before, within))))
      (λ past new.
      let some = (listed_now one).1 (Contains-at new_found i one at_i) in
      let close = near_from one some in
      omega (arith, close, step.gained_steps other new, same_from))

  near_now : (next place : ℕ) → slice_get new_found (suc passed) ≡ Some next → Contains new_found place → steps_of new_steps place ≤ steps_of new_steps next + 1
  near_now next place at_next listed =
      let some = (listed_now place).1 listed in
      let close = near_from place some in
      let now_at : slice_get new_found passed ≡ Some from = subst (λ (l : List ℕ). slice_get l passed ≡ Some from) (sym step.after_old) (slice_get-append_old old_found step.gained from passed at) in
      let less = ascends_now passed (suc passed) from next (omega arith) now_at at_next in
      omega (arith, close, less)

  low_now : (i place : ℕ) → slice_get new_found i ≡ Some place → steps_of new_steps place ≤ i + 1
  low_now i place at_i = at_place i place at_i
      (λ was. let low = spread.low i place was in let had = (spread.listed place).1 (Contains-at old_found i place was) in omega (arith, low, step.stays place had))
      (λ past new. let low = spread.low passed from at in omega (arith, low, past, room, step.gained_steps place new))

  -- a place is passed
  pub spread_passes : IsSpread begins goes new_steps new_found (suc passed)
  spread_passes = record { listed = listed_now; reached = reached_now; first = first_now; behind = behind_now; closed = closed_now; ascends = ascends_now; near = near_now; low = low_now; once = step.once }

-- a place that has steps lies within them
pub steps_within : (steps : List ℕ) (place : ℕ) → 0 < steps_of steps place → place < length steps
steps_within [] place some = absurd (omega (arith, some))
steps_within (n ∷ steps) zero some = omega arith
steps_within (n ∷ steps) (suc place) some = let within = steps_within steps place some in omega (arith, within)

-- no more is found than there are places
pub spread_at_most : (begins : ℕ → Type 0) (goes : ℕ → ℕ → Type 0) (steps found : List ℕ) (passed : ℕ) → IsSpread begins goes steps found passed → length found ≤ length steps
spread_at_most begins goes steps found passed spread =
    length-le_from_distinct_below found (length steps) spread.once (λ place listed. steps_within steps place ((spread.listed place).1 (Contains-from_any same place found listed)))
  where
    same : (a b : ℕ) → eqb a b ≡ true → a ≡ b
    same a b e = eqb-true a b e

-- and no place has more steps than there are places
pub steps_at_most : (begins : ℕ → Type 0) (goes : ℕ → ℕ → Type 0) (steps found : List ℕ) (passed place : ℕ) → IsSpread begins goes steps found passed → steps_of steps place ≤ length steps
steps_at_most begins goes steps found passed place spread = ⊎_elim
    (λ some.
    let there = place_of found place ((spread.listed place).0 some) in
    let low = spread.low there.0 place there.1 in
    let within = slice_get_within found there.0 place there.1 in
    let most = spread_at_most begins goes steps found passed spread in
    omega (arith, low, within, most))
    (λ none_there. omega (arith, none_there))
    (cases_lt 0 (steps_of steps place))

-- where all that was found is passed, the steps are those of all places
pub spread_ends : (begins : ℕ → Type 0) (goes : ℕ → ℕ → Type 0) (steps found : List ℕ) → IsSpread begins goes steps found (length found) → AreSteps begins goes steps
spread_ends begins goes steps found spread = record {
  reached = λ place. (spread.reached place, least begins goes (λ p. 0 < steps_of steps p) begun (λ from to some edge. (next from to some edge).0) place);
  first = spread.first;
  onward = λ from to edge some. (next from to some edge).1;
  behind = spread.behind;
}
  where
    begun : (place : ℕ) → begins place → 0 < steps_of steps place
    begun place is = let one = (spread.first place).1 is in omega (arith, one)

    next : (from to : ℕ) → 0 < steps_of steps from → goes from to → (0 < steps_of steps to) × (steps_of steps to ≤ steps_of steps from + 1)
    next from to some edge =
        let there = place_of found from ((spread.listed from).0 some) in
        spread.closed there.0 from to (slice_get_within found there.0 from there.1) there.1 edge
