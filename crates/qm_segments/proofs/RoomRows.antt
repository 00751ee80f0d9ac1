-- Worked rows: the three rooms with all that the laws ask for, so that none of them is empty: the last room is in the
-- coarse row of the first door, and the rows of the first and the last room have each other.
use Rattle.std.proofs.Common.{◌≡◌, ℤ, pos, neg_ℤ, ◌+ℤ◌, ◌-ℤ◌, ◌*ℤ◌, ◌<ℤ◌, true, false, [], ◌∷◌, Contains, refl, sym, ◌∙◌, arith, inl, ◌↔◌}
use Rattle.std.proofs.lemmas.Int.{ints}
use Rattle.std.proofs.lemmas.List.Elements.{All-from_recursion, All-contains, All-nil}
use Rattle.qm_space.specs.Bounds.{extent}
use Rattle.qm_space.specs.Point.{Point, IsInCube}
use Rattle.qm_space.specs.Plane.{value, IsOn, IsInFront, flipped}
use Rattle.qm_space.specs.Cube.{wall_y, wall_z}
use Rattle.qm_space.proofs.Planes.{value_flipped}
use Rattle.qm_numbers.proofs.IntegerProducts.{linear, neg-*ℤ, +ℤ-*ℤ, -ℤ-*ℤ}
use Rattle.qm_numbers.proofs.Signs.{product_positive}
use Rattle.qm_convex.specs.Winding.{IsInRegion}
use Rattle.qm_convex.proofs.Squares.{square_convex, square_region, square_all, turn_y_z, between_y, between_z}
use Rattle.qm_contents.specs.declared.contents.Contents.TheVariants.{Empty}
use Rattle.qm_partition.specs.LeafOfPoint.{node_value}
use Rattle.qm_partition.specs.Ways.{ways, IsInLeaf, HasPoints}
use Rattle.qm_contacts.specs.Meeting.{Meeting, meeting_at, meetings}
use Rattle.qm_contacts.specs.Contact.{bounds_of_contact}
use Rattle.qm_contacts.specs.Touching.{IsTouching, AreApart, AreTouchings, none, touching, apart}
use Rattle.qm_contacts.specs.Portals.{portals_of}
use Rattle.qm_coarse_rows.specs.CoarseRow.{IsInCoarseRow}
use Rattle.qm_coarse_rows.proofs.RoomSamples.{at, rooms, door, touchings, portals, out, on, back, rows, coarse_rows, leaf_rows, are_leaf_rows}
use Rattle.qm_segments.specs.Clear.{LeafHas}
use Rattle.qm_segments.specs.Ends.{HasInRow, HoldLinesOfSight}
use Rattle.qm_segments.specs.LedByPortals.{IsLedByPortals}
use Rattle.qm_segments.specs.Sight.{IsInSight, AreSoundRows}
use Rattle.qm_segments.specs.SeenVia.{IsSeenVia}
use Rattle.qm_segments.specs.OpenChain.{IsInBound}
use Rattle.qm_segments.specs.Steps.{LetSegmentsThrough, LeadOnOrBlock}
use Rattle.qm_segments.specs.Ahead.{IsAhead}
use Rattle.qm_segments.proofs.OpenChains.{bound_has_sight}
use Rattle.qm_segments.proofs.AheadLaws.{start_ahead}
use Rattle.qm_segments.proofs.ViaLaws.{first_in_sight_back}
use Rattle.qm_segments.proofs.CoarseSight.{coarse_holds_sight}
use Rattle.qm_segments.proofs.EndRows.{coarse_rows_hold_ends, coarse_rows_sound}
use Rattle.qm_segments.proofs.SegmentLaw.{is_led_by_portals}
use Rattle.qm_segments.proofs.RoomSights.{place, line, at_value, generic, clear, sight_row}

-- ---- the meetings of the rooms, and their contacts

abbrev first_meeting : Meeting
first_meeting = meeting_at 0 0 [] (record { leaf = 0; way = [] }) (record { leaf = 1; way = record { plane = 1; front = true } ∷ [] })

abbrev far_meeting : Meeting
far_meeting = meeting_at 0 0 [] (record { leaf = 0; way = [] }) (record { leaf = 2; way = record { plane = 1; front = false } ∷ [] })

abbrev second_meeting : Meeting
second_meeting = meeting_at 1 1 (record { plane = 0; front = false } ∷ []) (record { leaf = 1; way = [] }) (record { leaf = 2; way = [] })

meetings_row : meetings rooms ≡ first_meeting ∷ far_meeting ∷ second_meeting ∷ []
meetings_row = refl

-- the points of a door
module _ (x : ℤ) (above : pos 0 <ℤ (extent +ℤ x)) (below : pos 0 <ℤ (extent -ℤ x)) (p : Point) where
  in_door : IsInRegion (door x) p ↔ (IsOn (at x) p × IsInCube p)
  in_door = (
    (λ r.
        let s = (square_region (at x) wall_y wall_z p).0 r in
        let v = at_value x p in
        let low = product_positive (extent +ℤ x) p.w above s.0 in
        let high = product_positive (extent -ℤ x) p.w below s.0 in
        let low_sum = +ℤ-*ℤ extent x p.w in
        let high_sum = -ℤ-*ℤ extent x p.w in
        let on = s.1 in
        (s.1, record { weight = s.0; x = record { above = omega (arith, linear); below = omega (arith, linear) }; y = (between_y p).0 s.2; z = (between_z p).0 s.3 })),
    (λ c. (square_region (at x) wall_y wall_z p).1 (c.1.weight, c.0, (between_y p).1 c.1.y, (between_z p).1 c.1.z)),
  )

-- at a door x is so many times w
on_door : (x d : ℤ) (p : Point) → IsOn (at x) p → value (at d) p ≡ (x -ℤ d) *ℤ p.w
on_door x d p on = let e = at_value x p in let f = at_value d p in let g = -ℤ-*ℤ x d p.w in omega (arith, linear)

is_first : IsTouching rooms.planes first_meeting (record { node = 0; front = 0; back = 1; winding = door (pos 64) })
is_first = record {
  node = refl;
  front = refl;
  back = refl;
  convex = square_convex (at (pos 64)) wall_y wall_z (let e = turn_y_z (at (pos 64)) in omega (arith, ints)) (omega (arith, ints)) (omega (arith, ints));
  plane = refl;
  points = λ p. (
    (λ r.
        let its = (in_door (pos 64) (omega (arith, ints)) (omega (arith, ints)) p).0 r in
        let far = on_door (pos 64) (pos 0) p its.0 in
        let more = product_positive (pos 64) p.w (omega (arith, ints)) r.weight in
        record {
          in_cube = its.1;
          on = its.0;
          above = All-nil (λ h. IsInFront h p);
          in_front = All-nil (λ h. IsInFront h p);
          behind = All-from_recursion (λ h. IsInFront h p) (at (pos 0) ∷ []) (omega (arith, linear), tt);
        }),
    (λ c. (in_door (pos 64) (omega (arith, ints)) (omega (arith, ints)) p).1 (c.on, c.in_cube)),
  );
  edges = square_all (Contains (bounds_of_contact rooms.planes first_meeting)) (at (pos 64)) wall_y wall_z (1, omega arith, refl) (2, omega arith, refl) (4, omega arith, refl) (5, omega arith, refl);
}

is_second : IsTouching rooms.planes second_meeting (record { node = 1; front = 1; back = 2; winding = door (pos 0) })
is_second = record {
  node = refl;
  front = refl;
  back = refl;
  convex = square_convex (at (pos 0)) wall_y wall_z (let e = turn_y_z (at (pos 0)) in omega (arith, ints)) (omega (arith, ints)) (omega (arith, ints));
  plane = refl;
  points = λ p. (
    (λ r.
        let its = (in_door (pos 0) (omega (arith, ints)) (omega (arith, ints)) p).0 r in
        let near = on_door (pos 0) (pos 64) p its.0 in
        let turned = value_flipped (at (pos 64)) p in
        let more = product_positive (pos 64) p.w (omega (arith, ints)) r.weight in
        let less = neg-*ℤ (pos 64) p.w in
        record {
          in_cube = its.1;
          on = its.0;
          above = All-from_recursion (λ h. IsInFront h p) (flipped (at (pos 64)) ∷ []) (omega (arith, linear), tt);
          in_front = All-nil (λ h. IsInFront h p);
          behind = All-nil (λ h. IsInFront h p);
        }),
    (λ c. (in_door (pos 0) (omega (arith, ints)) (omega (arith, ints)) p).1 (c.on, c.in_cube)),
  );
  edges = square_all (Contains (bounds_of_contact rooms.planes second_meeting)) (at (pos 0)) wall_y wall_z (1, omega arith, refl) (2, omega arith, refl) (4, omega arith, refl) (5, omega arith, refl);
}

-- the first room and the last do not touch
never : AreApart rooms.planes far_meeting
never p c =
    let far = on_door (pos 64) (pos 0) p c.on in
    let more = product_positive (pos 64) p.w (omega (arith, ints)) c.in_cube.weight in
    let turned = value_flipped (at (pos 0)) p in
    let behind = c.behind 0 (at (pos 0)) (omega arith) in
    absurd (omega (arith, linear))

pub are_touchings : AreTouchings rooms.planes (meetings rooms) touchings
are_touchings = touching is_first (apart never (touching is_second none))

-- ---- each room has a point

in_cube : (x : ℤ) → neg_ℤ extent <ℤ x → x <ℤ extent → IsInCube (place x)
in_cube x low high = record {
  weight = omega (arith, ints);
  x = record { above = omega (arith, ints, low); below = omega (arith, ints, high) };
  y = record { above = omega (arith, ints); below = omega (arith, ints) };
  z = record { above = omega (arith, ints); below = omega (arith, ints) };
}

pub have_points : HasPoints rooms
unfolding value
have_points way there = All-contains (λ way. (x : Point) × IsInLeaf rooms.planes way x) (ways rooms.shape) way
    (All-from_recursion (λ way. (x : Point) × IsInLeaf rooms.planes way x) (ways rooms.shape) (
      (place (pos 100), record { in_cube = in_cube (pos 100) (omega (arith, ints)) (omega (arith, ints)); in_cell = All-from_recursion (λ h. IsInFront h (place (pos 100))) (at (pos 64) ∷ []) (omega (arith, ints), tt) }),
      (
        (place (pos 32), record { in_cube = in_cube (pos 32) (omega (arith, ints)) (omega (arith, ints)); in_cell = All-from_recursion (λ h. IsInFront h (place (pos 32))) (flipped (at (pos 64)) ∷ at (pos 0) ∷ []) (omega (arith, ints), (omega (arith, ints), tt)) }),
        ((place (neg_ℤ (pos 100)), record { in_cube = in_cube (neg_ℤ (pos 100)) (omega (arith, ints)) (omega (arith, ints)); in_cell = All-from_recursion (λ h. IsInFront h (place (neg_ℤ (pos 100)))) (flipped (at (pos 64)) ∷ flipped (at (pos 0)) ∷ []) (omega (arith, ints), (omega (arith, ints), tt)) }), tt),
      ),
    ))
    there

-- ---- the laws

coarse_row_by_law : IsInCoarseRow portals out 2
coarse_row_by_law = coarse_holds_sight rooms touchings are_touchings have_points out (0, omega arith, refl) 2 sight_row

rows_by_law : HoldLinesOfSight (LeafHas rooms) rooms leaf_rows
rows_by_law = coarse_rows_hold_ends [] rooms have_points (λ a b portal mark. absurd (let e : false ≡ true = mark in cc)) (LeafHas rooms) (λ x in_cube off. refl) (λ x c d is it. sym is ∙ it) touchings are_touchings rows leaf_rows coarse_rows are_leaf_rows

ends_by_law : HasInRow rooms leaf_rows 0 2 × HasInRow rooms leaf_rows 2 0
unfolding node_value value
ends_by_law =
    let holds = rows_by_law line (record { generic = generic; contents = Empty; not_solid = λ e. cc; clear = clear; not_filled = refl }) in
    (holds.there, holds.back)

-- ---- steps of which none blocks

abbrev Any : Type 0
Any = Unit {0}

lets_row : LetSegmentsThrough {State = Any} (λ p state. Any) (λ state q next. Any) (λ state q. ⊥) portals (λ s x state. Any)
lets_row = record { begun = λ s p state x listed at begun. tt; not_blocked = λ s q state x y met listed at between blocked. blocked; gone_on = λ s q state next x y met listed at between step. tt }

lead_row : LeadOnOrBlock {State = Any} (λ p state. Any) (λ state q next. Any) (λ state q. ⊥) portals
lead_row = record { begin_all = λ p listed. (tt, tt); go_on = λ p chain state q is_open listed. inl (tt, tt) }

-- then the last room is in the bound of the first door, and ahead at its start
bound_by_law : IsInBound {State = Any} (λ p state. Any) (λ state q next. Any) portals out 2
bound_by_law = bound_has_sight (λ p state. Any) (λ state q next. Any) (λ state q. ⊥) rooms touchings (λ s x state. Any) lets_row lead_row have_points are_touchings out 2 (0, omega arith, refl) sight_row

ahead_by_law : IsAhead {State = Any} (λ s x state. Any) rooms out tt 1 (1 ∷ 0 ∷ []) 2
ahead_by_law = start_ahead rooms have_points touchings are_touchings (λ p state. Any) (λ state q next. Any) (λ state q. ⊥) (λ s x state. Any) lets_row out (0, omega arith, refl) 2 tt tt sight_row

-- it is seen via the second door, so the first room is in sight of that door the other way
via_row : IsSeenVia rooms out on 2
unfolding sight_row
via_row = record { sight = sight_row; before = []; left = 1; entered = 2; after = []; leaves_are = refl; left_is = refl; entered_is = refl }

back_by_law : IsInSight rooms back 0
back_by_law = first_in_sight_back rooms out on 2 via_row back refl refl

-- the segment goes by both doors
led_by_law : IsLedByPortals rooms (portals_of rooms touchings) line
led_by_law = is_led_by_portals rooms have_points touchings are_touchings line generic Empty (λ e. cc) clear

-- the coarse rows are rows of this world
pub sound_by_law : AreSoundRows rooms portals rows
sound_by_law = coarse_rows_sound rooms have_points touchings are_touchings 3 rows coarse_rows
