-- Steps found breadth first, place by place: those that begin, and those to which one place goes.
use Rattle.std.proofs.Common.{◌≡◌, ◌≢◌, ℕ, ◌+◌, ◌<◌, eqb, false, List, [], ◌∷◌, ◌++◌, length, set, append_assoc, ◌⊎◌, inl, inr, ⊎_elim, refl, sym, ◌∙◌, subst, arith, ◌↔◌}
use Rattle.std.specs.List.{Contains, IsDistinct}
use Rattle.std.proofs.lemmas.Bool.{cases_eq, cases_lt, eqb-true}
use Rattle.std.proofs.lemmas.List.{append-nil, length_push, get_or_push, get_or_append_left, get_or_past, get_or-set_same, get_or-set_other}
use Rattle.std.proofs.lemmas.List.Elements.{Contains-append_left, Contains-append_cases, Contains-push, Contains-push_cases}
use Rattle.qm_lists.specs.inner.Steps.{steps_of, IsBegun, IsSpread, SpreadsOn}
use Rattle.qm_lists.proofs.Cases.{by_cases}
use Rattle.qm_lists.proofs.Elements.{Contains-first, Contains-later, AllByRecursion-append}
use Rattle.qm_lists.proofs.Spreads.{spread_begins, steps_within}

-- one number more, which is not in the list
pub distinct_push : (numbers : List ℕ) (more : ℕ) → IsDistinct eqb numbers → (Contains numbers more → ⊥) → IsDistinct eqb (numbers ++ more ∷ [])
unfolding IsDistinct
distinct_push [] more once apart = (tt, tt)
distinct_push (first ∷ numbers) more once apart = (
  AllByRecursion-append (λ other. eqb first other ≡ false) numbers (more ∷ []) once.0 (unequal, tt),
  distinct_push numbers more once.1 (λ listed. apart (Contains-later first more numbers listed)),
)
  where
    unequal : eqb first more ≡ false
    unequal = by_cases (eqb first more)
        (λ same. absurd (apart (subst (λ (n : ℕ). Contains (first ∷ numbers) n) (eqb-true first more same) (Contains-first first numbers))))
        (λ other. other)

-- ---- what begins

module _ (steps : List ℕ) (more : ℕ) where
  at_end : steps_of (steps ++ more ∷ []) (length steps) ≡ more
  at_end = get_or_push steps more 0 (length steps) refl

  elsewhere : (place : ℕ) → place ≢ length steps → steps_of (steps ++ more ∷ []) place ≡ steps_of steps place
  elsewhere place other = ⊎_elim
      (λ within. get_or_append_left steps (more ∷ []) 0 place within)
      (λ past.
      let long = length_push steps more in
      get_or_past (steps ++ more ∷ []) place 0 (omega (arith, past, other, long)) ∙ sym (get_or_past steps place 0 past))
      (cases_lt place (length steps))

pub begun_none : (begins : ℕ → Type 0) → IsBegun begins [] []
unfolding IsDistinct
begun_none begins = record {
  small = λ place. omega arith;
  starts = λ place within. absurd (omega (arith, within));
  lists = λ place. ((λ some. absurd (omega (arith, some))), (λ listed. absurd (let within = listed.1 in omega (arith, within))));
  once = tt;
}

module _ (begins : ℕ → Type 0) (steps found : List ℕ) (begun : IsBegun begins steps found) where
  -- a place more, which begins
  pub begun_yes : begins (length steps) → IsBegun begins (steps ++ 1 ∷ []) (found ++ length steps ∷ [])
  begun_yes is = record {
    small = λ place. ⊎_elim (λ here. rw here (omega (arith, at_end steps 1))) (λ other. omega (arith, elsewhere steps 1 place other, begun.small place)) (cases_eq place (length steps));
    starts = starts;
    lists = λ place. (listed place, back place);
    once = distinct_push found (length steps) begun.once (λ listed. let some = (begun.lists (length steps)).1 listed in let within = steps_within steps (length steps) some in omega (arith, within));
  }
    where
      last : 0 < steps_of (steps ++ 1 ∷ []) (length steps)
      last = omega (arith, at_end steps 1)

      starts : (place : ℕ) → place < length (steps ++ 1 ∷ []) → begins place ↔ (0 < steps_of (steps ++ 1 ∷ []) place)
      starts place within = ⊎_elim
          (λ here. ((λ _. rw here last), (λ _. subst begins (sym here) is)))
          (λ other.
          let long = length_push steps 1 in
          let same = elsewhere steps 1 place other in
          let old = begun.starts place (omega (arith, within, long, other)) in
          ((λ b. let some = old.0 b in omega (arith, same, some)), (λ some. old.1 (omega (arith, same, some)))))
          (cases_eq place (length steps))

      listed : (place : ℕ) → 0 < steps_of (steps ++ 1 ∷ []) place → Contains (found ++ length steps ∷ []) place
      listed place some = ⊎_elim
          (λ here. subst (λ (p : ℕ). Contains (found ++ length steps ∷ []) p) (sym here) (Contains-push found (length steps)))
          (λ other. Contains-append_left found (length steps ∷ []) place ((begun.lists place).0 (omega (arith, some, elsewhere steps 1 place other))))
          (cases_eq place (length steps))

      back : (place : ℕ) → Contains (found ++ length steps ∷ []) place → 0 < steps_of (steps ++ 1 ∷ []) place
      back place is_listed = ⊎_elim
          (λ was.
          let some = (begun.lists place).1 was in
          let within = steps_within steps place some in
          omega (arith, some, elsewhere steps 1 place (λ here. omega (arith, here, within))))
          (λ here. subst (λ (p : ℕ). 0 < steps_of (steps ++ 1 ∷ []) p) here last)
          (Contains-push_cases found (length steps) place is_listed)

  -- and one which does not
  pub begun_no : (begins (length steps) → ⊥) → IsBegun begins (steps ++ 0 ∷ []) found
  begun_no never = record {
    small = λ place. omega (arith, same place, begun.small place);
    starts = λ place within. ⊎_elim
        (λ here. ((λ is. absurd (never (subst begins here is))), (λ some. absurd (let past = get_or_past steps (length steps) 0 (omega arith) in let now = same place in let at : steps_of steps place ≡ 0 = rw here past in omega (arith, some, now, at)))))
        (λ other.
        let long = length_push steps 0 in
        let old = begun.starts place (omega (arith, within, long, other)) in
        ((λ b. let some = old.0 b in omega (arith, same place, some)), (λ some. old.1 (omega (arith, same place, some)))))
        (cases_eq place (length steps));
    lists = λ place. ((λ some. (begun.lists place).0 (omega (arith, same place, some))), (λ listed. let some = (begun.lists place).1 listed in omega (arith, same place, some)));
    once = begun.once;
  }
    where
      same : (place : ℕ) → steps_of (steps ++ 0 ∷ []) place ≡ steps_of steps place
      same place = ⊎_elim
          (λ here. rw here (at_end steps 0 ∙ sym (get_or_past steps (length steps) 0 (omega arith))))
          (λ other. elsewhere steps 0 place other)
          (cases_eq place (length steps))

  -- all places are gone through
  pub begun_ends : (goes : ℕ → ℕ → Type 0) → ((place : ℕ) → begins place → place < length steps) → IsSpread begins goes steps found 0
  begun_ends goes within =
      spread_begins begins goes steps found begun.small
      (λ place. ((λ is. (begun.starts place (within place is)).0 is), (λ some. (begun.starts place (steps_within steps place some)).1 some)))
      begun.lists begun.once

-- ---- where one place goes, of more and more places

-- nowhere
pub spreads_none : (goes : ℕ → ℕ → Type 0) (from : ℕ) (steps found : List ℕ) → ((to : ℕ) → goes from to → ⊥) → IsDistinct eqb found → SpreadsOn goes from steps steps found found
spreads_none goes from steps found never once = record {
  gained = [];
  after_old = sym (append-nil found);
  stays = λ place some. refl;
  found_all = λ to edge. absurd (never to edge);
  gained_only = λ place some. inl some;
  gained_new = λ place gained. absurd (let within = gained.1 in omega (arith, within));
  gained_steps = λ place gained. absurd (let within = gained.1 in omega (arith, within));
  gained_behind = λ place gained. absurd (let within = gained.1 in omega (arith, within));
  once = once;
}

module _ (goes more : ℕ → ℕ → Type 0) (from : ℕ) (old_steps steps old_found found : List ℕ) (step : SpreadsOn goes from old_steps steps old_found found) (also : (to : ℕ) → goes from to → more from to) where
  -- to places that have steps
  pub spreads_skip : ((to : ℕ) → more from to → goes from to ⊎ (0 < steps_of steps to)) → SpreadsOn more from old_steps steps old_found found
  spreads_skip known = record {
    gained = step.gained;
    after_old = step.after_old;
    stays = step.stays;
    found_all = λ to edge. ⊎_elim (λ was. step.found_all to was) (λ some. some) (known to edge);
    gained_only = step.gained_only;
    gained_new = step.gained_new;
    gained_steps = step.gained_steps;
    gained_behind = λ place gained. also place (step.gained_behind place gained);
    once = step.once;
  }

  -- to one that has none: it gets them
  pub spreads_gain : (place : ℕ) → ((p : ℕ) → (0 < steps_of old_steps p) ↔ Contains old_found p) → place < length steps → steps_of steps place ≡ 0 → more from place → ((to : ℕ) → more from to → goes from to ⊎ (to ≡ place)) → SpreadsOn more from old_steps (set steps place (steps_of old_steps from + 1)) old_found (found ++ place ∷ [])
  spreads_gain place lists within zero edge known = record {
    gained = step.gained ++ place ∷ [];
    after_old = rw step.after_old (append_assoc old_found step.gained (place ∷ []));
    stays = λ p some. let had = step.stays p some in other p (λ here. let now = at_place here in omega (arith, some, had, now)) ∙ had;
    found_all = λ to is. ⊎_elim
        (λ was. let some = step.found_all to was in omega (arith, some, other to (λ here. let now = at_place here in omega (arith, some, now))))
        (λ here. rw here (omega (arith, this)))
        (known to is);
    gained_only = λ p some. ⊎_elim
        (λ here. inr (subst (λ (q : ℕ). Contains (step.gained ++ place ∷ []) q) (sym here) (Contains-push step.gained place)))
        (λ apart. ⊎_elim (λ was. inl was) (λ gained. inr (Contains-append_left step.gained (place ∷ []) p gained)) (step.gained_only p (omega (arith, some, other p apart))))
        (cases_eq p place);
    gained_new = λ p gained. ⊎_elim
        (λ was. step.gained_new p was)
        (λ here. subst (λ (q : ℕ). steps_of old_steps q ≡ 0) here none_before)
        (Contains-push_cases step.gained place p gained);
    gained_steps = λ p gained. ⊎_elim
        (λ was. let has = step.gained_steps p was in other p (λ here. let now = at_place here in omega (arith, has, now)) ∙ has)
        (λ here. subst (λ (q : ℕ). steps_of new_steps q ≡ steps_of old_steps from + 1) here this)
        (Contains-push_cases step.gained place p gained);
    gained_behind = λ p gained. ⊎_elim
        (λ was. also p (step.gained_behind p was))
        (λ here. subst (more from) here edge)
        (Contains-push_cases step.gained place p gained);
    once = distinct_push found place step.once not_found;
  }
    where
      new_steps : List ℕ
      new_steps = set steps place (steps_of old_steps from + 1)

      at_place : {p : ℕ} → p ≡ place → steps_of steps p ≡ 0
      at_place here = rw here zero

      this : steps_of new_steps place ≡ steps_of old_steps from + 1
      this = get_or-set_same steps place (steps_of old_steps from + 1) 0 within

      other : (p : ℕ) → p ≢ place → steps_of new_steps p ≡ steps_of steps p
      other p apart = get_or-set_other steps place p (steps_of old_steps from + 1) 0 apart

      none_before : steps_of old_steps place ≡ 0
      none_before = ⊎_elim (λ some. absurd (let had = step.stays place some in omega (arith, had, some, zero))) (λ none. omega (arith, none)) (cases_lt 0 (steps_of old_steps place))

      not_found : Contains found place → ⊥
      not_found listed = ⊎_elim
          (λ was. let some = (lists place).1 was in omega (arith, some, none_before))
          (λ gained. let has = step.gained_steps place gained in omega (arith, has, zero))
          (Contains-append_cases old_found step.gained place (subst (λ (l : List ℕ). Contains l place) step.after_old listed))
