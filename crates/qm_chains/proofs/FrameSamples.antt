-- Worked rows: four rooms in a row. A chain has gone from the first room into the second one, and the last room is awaited there, by
-- the second door.
use Rattle.std.proofs.Common.{◌≡◌, ◌⊎◌, ℕ, zero, suc, ℤ, pos, true, false, Bool, List, [], ◌∷◌, Contains, refl, sym, subst, arith, inl, inr, ⊎_elim}
use Rattle.std.proofs.lemmas.Int.{ints}
use Rattle.std.proofs.lemmas.List.Elements.{All-from_recursion}
use Rattle.qm_lists.specs.WorkList.{IsIn}
use Rattle.qm_lists.proofs.Elements.{Contains-cons_cases}
use Rattle.qm_space.specs.Plane.{value, IsInFront}
use Rattle.qm_convex.specs.Winding.{IsInRegion}
use Rattle.qm_contacts.specs.Portals.{Portal}
use Rattle.qm_coarse_rows.proofs.RoomSamples.{rooms, door, touchings, out, in_again, on, back}
use Rattle.qm_segments.specs.SeenVia.{LiesOnWay, LiesFartherOn}
use Rattle.qm_segments.specs.GoesThrough.{GoesThrough}
use Rattle.qm_segments.specs.LeafNumber.{IsNumberOf}
use Rattle.qm_segments.specs.Sight.{IsInSight}
use Rattle.qm_segments.specs.Ahead.{IsAheadOver}
use Rattle.qm_segments.proofs.AheadLaws.{same_number}
use Rattle.qm_segments.proofs.Betweenness.{farther_between}
use Rattle.qm_segments.proofs.RoomSights.{place, line}
use Rattle.qm_segments.proofs.RoomRows.{are_touchings}
use Rattle.qm_separators.specs.ChainState.{ChainState, first_state}
use Rattle.qm_separators.specs.PortalSteps.{BeginsWith, StepsThrough, MeetsState, AreConvexPortals}
use Rattle.qm_separators.proofs.PortalStepLaws.{are_convex, first_is_state, lets_segments_through, lets_pass}
use Rattle.qm_separators.proofs.StepsLead.{leads_on_or_blocks}
use Rattle.qm_chains.specs.inner.Cone.{AreLeft, with_mask}
use Rattle.qm_chains.specs.inner.Frame.{Frame, StopsAt, not_passed, blocked, MayEnter, IsNextTo, IsAwaited}
use Rattle.qm_chains.specs.inner.Narrowing.{IsWithout}
use Rattle.qm_chains.specs.inner.Wanted.{IsWanted}
use Rattle.qm_chains.proofs.FourRooms.{four_rooms, four_world, first_through, second_after, passes_on, four_sight, seen_on}

-- the chain may still show all rooms but the first one
abbrev frame : Frame
frame = record {
  state = first_state out.winding out.into;
  untried = 1 ∷ 2 ∷ [];
  met = true ∷ true ∷ false ∷ false ∷ [];
  mask = false ∷ true ∷ true ∷ true ∷ [];
}

-- the same chain, where it may not show the last room
abbrev shorter : Frame
shorter = with_mask (false ∷ true ∷ true ∷ false ∷ []) frame

not_in : {P : Type 0} → false ≡ true → P
not_in is = absurd cc

-- ---- a room that was not met may be kept out by the mask alone

may_enter_third : MayEnter frame 2
may_enter_third = ((λ is. not_in is), refl)

may_enter_last : MayEnter frame 3
may_enter_last = ((λ is. not_in is), refl)

last_not_met : IsIn shorter.met 3 → ⊥
last_not_met is = not_in is

may_not_enter_last : MayEnter shorter 3 → ⊥
may_not_enter_last may = not_in may.1

-- ---- of the rooms on the way through the second door, the last one lies farther on, and the one that it enters does not

on_way_third : LiesOnWay four_rooms seen_on 2
unfolding seen_on
on_way_third = record { place = 2; entered = (0, omega arith, refl); number_is = refl }

on_way_last : LiesOnWay four_rooms seen_on 3
unfolding seen_on
on_way_last = record { place = 3; entered = (1, omega arith, refl); number_is = refl }

farther_last : LiesFartherOn four_rooms seen_on (MayEnter frame) 3
farther_last = record { other = λ same. omega (arith, same); on_way = on_way_last; has = may_enter_last }

third_not_farther : LiesFartherOn four_rooms seen_on (MayEnter frame) 2 → ⊥
third_not_farther farther = farther.other refl

-- nor does the last one, where the chain may not enter it
last_not_farther : LiesFartherOn four_rooms seen_on (MayEnter shorter) 3 → ⊥
last_not_farther farther = may_not_enter_last farther.has

-- ---- the second door is next on the way to the last room

abbrev doors : List Portal
doors = out ∷ in_again ∷ on ∷ back ∷ []

convex_doors : AreConvexPortals doors
convex_doors = are_convex rooms touchings are_touchings

begun : BeginsWith out frame.state
begun = let its = convex_doors out (0, omega arith, refl) in record { state_is = refl; valid = first_is_state out its.0 its.1 }

in_door : (x : ℤ) → IsInRegion (door x) (place x)
unfolding value
in_door x = record {
  weight = omega (arith, ints);
  on = omega (arith, ints);
  inside = All-from_recursion (λ h. IsInFront h (place x)) (door x).edges (omega (arith, ints), (omega (arith, ints), (omega (arith, ints), (omega (arith, ints), tt))));
}

second_through : GoesThrough line on (place (pos 0))
unfolding value
second_through = record {
  between = farther_between line.from line.to (place (pos 64)) (place (pos 0)) first_through second_after;
  inside = in_door (pos 0);
  behind = omega (arith, ints);
  in_front = omega (arith, ints);
}

first_goes_through : GoesThrough line out (place (pos 64))
unfolding value
first_goes_through = record { between = first_through; inside = in_door (pos 64); behind = omega (arith, ints); in_front = omega (arith, ints) }

-- the line through all rooms has met the chain's state at the first door
met : MeetsState line (place (pos 64)) frame.state
met = (lets_segments_through doors convex_doors).begun line out frame.state (place (pos 64)) (0, omega arith, refl) first_goes_through begun

not_stopped : StopsAt frame.state on → ⊥
not_stopped (not_passed never) = never (lets_pass doors convex_doors frame.state line on (place (pos 64)) (place (pos 0)) met (2, omega arith, refl) second_through second_after)
not_stopped (blocked is) = (lets_segments_through doors convex_doors).not_blocked line on frame.state (place (pos 64)) (place (pos 0)) met (2, omega arith, refl) second_through second_after is

-- so the step through it leads on, and what has to be ahead after it is no empty claim
goes_on : (next : ChainState) × StepsThrough frame.state on next
goes_on = ⊎_elim (λ leads. leads) (λ blocks. absurd (not_stopped (blocked blocks)))
    (leads_on_or_blocks frame.state on.winding on.into begun.valid (convex_doors on (2, omega arith, refl)).0)

-- behind the room that it enters there is the last room alone
each_farther : (m j : ℕ) → Contains (3 ∷ []) j → IsNumberOf four_rooms m j → LiesFartherOn four_rooms seen_on (MayEnter frame) m
each_farther m j there number = ⊎_elim
    (λ is. subst (LiesFartherOn four_rooms seen_on (MayEnter frame)) (same_number four_rooms 3 m 3 refl (subst (IsNumberOf four_rooms m) (sym is) number)) farther_last)
    (λ none. let range = none.1 in absurd (omega arith))
    (Contains-cons_cases 3 j [] there)

last_ahead : (next : ChainState) → StepsThrough frame.state on next → IsAheadOver MeetsState four_rooms out next 2 (LiesFartherOn four_rooms seen_on (MayEnter frame)) 3
unfolding four_sight
last_ahead next step = record {
  sight = four_sight;
  at = place (pos 0);
  between = second_through.between;
  met = (lets_segments_through doors convex_doors).gone_on line on frame.state next (place (pos 64)) (place (pos 0)) met (2, omega arith, refl) second_through second_after step;
  before = 1 ∷ [];
  here = 2;
  rest = 3 ∷ [];
  leaves_are = refl;
  passes = passes_on;
  here_is = refl;
  each_has = each_farther;
}

second_is_next : IsNextTo four_rooms out frame 3 on
second_is_next = record { may_enter = may_enter_third; via = seen_on; not_stopped = not_stopped; ahead = last_ahead }

-- the way back is not: the chain has met the room that it enters
back_not_next : (n : ℕ) → IsNextTo four_rooms out frame n in_again → ⊥
back_not_next n next = next.may_enter.0 refl

-- ---- so the last room is awaited, but not where the chain may not show it

last_awaited : IsAwaited four_world out 3 frame
last_awaited = record { in_mask = refl; number = 2; untried = (1, omega arith, refl); portal = on; portal_is = refl; next = second_is_next }

last_not_awaited : IsAwaited four_world out 3 shorter → ⊥
last_not_awaited awaited = not_in awaited.in_mask

-- ---- a room that was found is wanted while one behind it is not found, and none is wanted when all are found

found_wanted : IsWanted four_world 0 (false ∷ true ∷ true ∷ false ∷ []) on 2
found_wanted = record { first = out; first_is = refl; target = 3; via = seen_on; on_way = on_way_third; not_found = λ is. not_in is }

each_found : (n : ℕ) → IsInSight four_rooms out n → IsIn (true ∷ true ∷ true ∷ true ∷ []) n
each_found zero sight = refl
each_found (suc zero) sight = refl
each_found (suc (suc zero)) sight = refl
each_found (suc (suc (suc zero))) sight = refl
each_found (suc (suc (suc (suc n)))) sight = absurd (let none = sight.last_is in cc)

none_wanted : (n : ℕ) → IsWanted four_world 0 (true ∷ true ∷ true ∷ true ∷ []) on n → ⊥
none_wanted n wanted =
    let first_is : wanted.first ≡ out = cc in
    wanted.not_found (each_found wanted.target (subst (λ (p : Portal). IsInSight four_rooms p wanted.target) first_is wanted.via.sight))

-- ---- rooms that are left to enter, when the second one was entered, and then the third

abbrev left : List Bool
left = false ∷ false ∷ true ∷ true ∷ []

abbrev fewer : List Bool
fewer = false ∷ false ∷ false ∷ true ∷ []

-- the chain is in the second room, and may still enter the third and the last one
two_left : AreLeft frame (false ∷ true ∷ false ∷ false ∷ []) left
two_left = record { wide = refl; all = each; apart = none }
  where
    each : (n : ℕ) → MayEnter frame n → IsIn (false ∷ true ∷ false ∷ false ∷ []) n ⊎ IsIn left n
    each zero may = not_in may.1
    each (suc zero) may = inl refl
    each (suc (suc zero)) may = inr refl
    each (suc (suc (suc zero))) may = inr refl
    each (suc (suc (suc (suc n)))) may = not_in may.1

    none : (n : ℕ) → IsIn left n → IsIn (false ∷ true ∷ false ∷ false ∷ []) n → ⊥
    none zero in_left in_cone = not_in in_left
    none (suc zero) in_left in_cone = not_in in_left
    none (suc (suc zero)) in_left in_cone = not_in in_cone
    none (suc (suc (suc zero))) in_left in_cone = not_in in_cone
    none (suc (suc (suc (suc n)))) in_left in_cone = not_in in_left

-- with one fewer, the third room is neither in the cone nor left
third_lost : AreLeft frame (false ∷ true ∷ false ∷ false ∷ []) fewer → ⊥
third_lost are = ⊎_elim (λ is. not_in is) (λ is. not_in is) (are.all 2 may_enter_third)

-- the rows differ in the third room alone
without_third : IsWithout 2 left fewer
without_third = record { same_length = refl; exactly = λ n. (kept n, keeps n) }
  where
    kept : (n : ℕ) → IsIn fewer n → IsIn left n × (2 ≡ n → ⊥)
    kept zero is = not_in is
    kept (suc zero) is = not_in is
    kept (suc (suc zero)) is = not_in is
    kept (suc (suc (suc zero))) is = (refl, λ same. omega (arith, same))
    kept (suc (suc (suc (suc n)))) is = not_in is

    keeps : (n : ℕ) → IsIn left n × (2 ≡ n → ⊥) → IsIn fewer n
    keeps zero its = its.0
    keeps (suc zero) its = its.0
    keeps (suc (suc zero)) its = absurd (its.1 refl)
    keeps (suc (suc (suc zero))) its = refl
    keeps (suc (suc (suc (suc n)))) its = its.0

-- a row that loses the last room too keeps too little
last_lost : IsWithout 2 left (false ∷ false ∷ false ∷ false ∷ []) → ⊥
last_lost is = not_in ((is.exactly 3).1 (refl, λ same. omega (arith, same)))
