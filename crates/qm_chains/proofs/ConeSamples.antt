-- Worked rows: three rooms in a row. In the cone of the first door's chain are the room that it enters, and the last room; the
-- first room, which was met, is not.
use Rattle.std.proofs.Common.{◌≡◌, ℕ, true, false, Bool, List, [], ◌∷◌, refl, sym, ◌∙◌, subst, arith}
use Rattle.std.proofs.lemmas.Int.{ints}
use Rattle.qm_lists.specs.Reach.{start, onward}
use Rattle.qm_lists.specs.WorkList.{IsIn}
use Rattle.qm_space.specs.Plane.{value}
use Rattle.qm_space.specs.Meet.{meet}
use Rattle.qm_space.specs.Determinant.{determinant}
use Rattle.qm_convex.specs.Winding.{corner_at, next_place}
use Rattle.qm_contacts.specs.World.{World}
use Rattle.qm_coarse_rows.proofs.RoomSamples.{rooms, portals, out, on}
use Rattle.qm_segments.specs.SeenVia.{IsSeenVia, LiesOnWay}
use Rattle.qm_segments.proofs.RoomSights.{sight_row}
use Rattle.qm_separators.specs.ChainState.{first_state}
use Rattle.qm_separators.specs.PortalSteps.{LetsPass}
use Rattle.qm_chains.specs.inner.Frame.{Frame, MayEnter}
use Rattle.qm_chains.specs.inner.Wanted.{IsWanted}
use Rattle.qm_chains.specs.inner.Cone.{LeadsOn, IsInCone}

abbrev pub world : World
world = record { tree = rooms; portals = portals }

-- the chain has gone from the first room into the middle one, which is found; it may still show the last one
abbrev frame : Frame
frame = record {
  state = first_state out.winding out.into;
  untried = 1 ∷ 2 ∷ [];
  met = true ∷ true ∷ false ∷ [];
  mask = false ∷ true ∷ true ∷ [];
}

abbrev pub found : List Bool
found = false ∷ true ∷ false ∷ []

-- the last room is seen via the second door from the first
pub via_on : IsSeenVia rooms out on 2
unfolding sight_row
via_on = record { sight = sight_row; before = []; left = 1; entered = 2; after = []; leaves_are = refl; left_is = refl; entered_is = refl }

passes_on : LetsPass (first_state out.winding out.into) on
unfolding corner_at next_place meet determinant value
passes_on = record {
  in_front = (0, omega arith, omega (arith, ints));
  beyond = λ h none. absurd none;
  source_behind = (0, omega arith, omega (arith, ints));
  pass_behind = tt;
}

-- the chain may enter the last room, but not the first one, which it has met
may_enter_last : MayEnter frame 2
may_enter_last = ((λ is. absurd (let e : false ≡ true = is in cc)), refl)

may_not_enter_first : MayEnter frame 0 → ⊥
may_not_enter_first may = may.0 refl

-- the last room lies on the way that ends in it
on_way_last : LiesOnWay rooms via_on 2
unfolding via_on
on_way_last = record { place = 2; entered = (0, omega arith, refl); number_is = refl }

pub last_wanted : IsWanted world 0 found on 2
last_wanted = record { first = out; first_is = refl; target = 2; via = via_on; on_way = on_way_last; not_found = λ is. absurd (let e : false ≡ true = is in cc) }

leads_on : LeadsOn world 0 frame found on
leads_on = record {
  passed = passes_on;
  may_enter = may_enter_last;
  leaf = 2;
  in_mask = refl;
  not_found = λ is. absurd (let e : false ≡ true = is in cc);
  wanted = last_wanted;
}

middle_row : IsInCone world 0 frame found 1 1
middle_row = start refl

last_row : IsInCone world 0 frame found 1 2
last_row = onward middle_row (record { portal = on; listed = (2, omega arith, refl); from_is = refl; to_is = refl; leads = leads_on })

-- no portal leads on into the first room
first_row : (n : ℕ) → IsInCone world 0 frame found 1 n → n ≡ 0 → ⊥
first_row n (start is) zero = absurd (omega (arith, is, zero))
first_row n (onward reached goes) zero = goes.leads.may_enter.0 (subst (λ (m : ℕ). IsIn frame.met m) (sym (goes.to_is ∙ zero)) refl)
