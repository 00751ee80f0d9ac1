-- Worked crossings: a line through two doors of three rooms in a row, as (-36, 164) and (-100, 100). The second door is further
-- on, and the last room is shown from the first door.
use Rattle.std.proofs.Common.{◌≡◌, ◌++◌, ℕ, pos, negsuc, ◌<ℤ◌, List, [], ◌∷◌, Contains, false, ⊎_elim, refl, sym, ap, ◌∙◌, subst, arith}
use Rattle.std.proofs.lemmas.Int.{ints}
use Rattle.std.proofs.lemmas.List.Elements.{All-from_recursion}
use Rattle.qm_lists.proofs.Elements.{Contains-cons_cases, Contains-nil}
use Rattle.qm_space.specs.Plane.{value}
use Rattle.qm_contacts.specs.Portals.{Portal}
use Rattle.qm_contacts.specs.World.{World}
use Rattle.qm_contacts.specs.OwnPortals.{HasOwnPortals}
use Rattle.qm_coarse_rows.proofs.RoomSamples.{rooms, touchings, portals, out, on}
use Rattle.qm_segments.proofs.RoomSights.{line}
use Rattle.qm_segments.proofs.RoomRows.{are_touchings, have_points}
use Rattle.qm_chains.specs.Shown.{IsShown}
use Rattle.qm_chains.proofs.TriedPortals.{same_portal}
use Rattle.qm_lines.specs.inner.Crossing.{Crossing, CrossesToFront, mixed, value_where, CrossesAt}
use Rattle.qm_lines.specs.inner.Trace.{IsTrace, IsOnward, HasEntered}
use Rattle.qm_lines.specs.declared.trace.Trace.{Trace}
use Rattle.qm_lines.proofs.Crossings.{crossing_with, goes_through}
use Rattle.qm_lines.proofs.Traces.{trace_begins, trace_goes_on, trace_shows}

abbrev world : World
world = record { tree = rooms; portals = portals }

own : HasOwnPortals world
own = record { have_points = have_points; touchings = touchings; are_touchings = are_touchings; portals_are = refl }

-- ---- the two doors

abbrev first : Crossing
first = crossing_with (negsuc 35) (pos 164)

abbrev second : Crossing
second = crossing_with (negsuc 99) (pos 100)

first_is : CrossesToFront first
first_is = record { begins_behind = omega (arith, ints); ends_in_front = omega (arith, ints); begin_small = omega arith; end_small = omega arith }

crosses_first : CrossesAt portals 0 line first
unfolding value mixed value_where
crosses_first = record {
  portal = out;
  portal_is = refl;
  goes_through = goes_through line out false refl first refl refl (omega (arith, ints)) (omega (arith, ints)) (omega (arith, ints)) (omega (arith, ints))
      (All-from_recursion (λ g. pos 0 <ℤ value_where first line g) out.winding.edges (omega (arith, ints), (omega (arith, ints), (omega (arith, ints), (omega (arith, ints), tt)))));
  begin_is = refl;
  end_is = refl;
}

crosses_second : CrossesAt portals 2 line second
unfolding value mixed value_where
crosses_second = record {
  portal = on;
  portal_is = refl;
  goes_through = goes_through line on false refl second refl refl (omega (arith, ints)) (omega (arith, ints)) (omega (arith, ints)) (omega (arith, ints))
      (All-from_recursion (λ g. pos 0 <ℤ value_where second line g) on.winding.edges (omega (arith, ints), (omega (arith, ints), (omega (arith, ints), (omega (arith, ints), tt)))));
  begin_is = refl;
  end_is = refl;
}

second_behind : value_where first line on.into <ℤ pos 0
unfolding value mixed value_where
second_behind = omega (arith, ints)

-- ---- traces of the line

module _ (start at_first at_second : Trace) (none : start.passed.items ≡ []) (one : start.met.items ≡ 0 ∷ []) (enters : HasEntered world 0 first start at_first) (goes_on : HasEntered world 2 second at_first at_second) where
  begun : IsTrace world 0 line at_first
  begun = trace_begins world own 0 line first crosses_first start at_first none out refl one enters

  to_first : enters.portal.to ≡ 1
  to_first = ap (λ (q : Portal). q.to) (same_portal portals 0 enters.portal out enters.portal_is refl)

  to_second : goes_on.portal.to ≡ 2
  to_second = ap (λ (q : Portal). q.to) (same_portal portals 2 goes_on.portal on goes_on.portal_is refl)

  met_are : at_first.met.items ≡ 0 ∷ 1 ∷ []
  met_are = enters.met ∙ ap (λ (met : List ℕ). met ++ enters.portal.to ∷ []) one ∙ ap (λ (n : ℕ). 0 ∷ n ∷ []) to_first

  not_met : Contains at_first.met.items 2 → ⊥
  not_met there = ⊎_elim (λ e. absurd (omega (arith, e))) (λ later. ⊎_elim (λ e. absurd (omega (arith, e))) (λ none. Contains-nil 2 none) (Contains-cons_cases 1 2 [] later))
      (Contains-cons_cases 0 2 (1 ∷ []) (subst (λ (met : List ℕ). Contains met 2) met_are there))

  next : IsOnward world line at_first 2 second
  unfolding crosses_second
  next = record {
    crosses = crosses_second;
    from_here = sym (enters.leaf ∙ to_first);
    further = subst (λ (c : Crossing). value_where c line on.into <ℤ pos 0) (sym enters.last) second_behind;
    new = not_met;
  }

  gone_on : IsTrace world 0 line at_second
  gone_on = trace_goes_on world own 0 line at_first at_second 2 second begun next goes_on

  last_room_shown : IsShown portals (λ q. Unit {0}) 0 2
  last_room_shown = subst (IsShown portals (λ q. Unit {0}) 0) (goes_on.leaf ∙ to_second) (trace_shows world own 0 line (λ n q. Unit {0}) at_second gone_on (λ place d within. tt))
