-- Worked rows: two doorways one behind the other, and a normal that the look refuses to one side and not to the other, for
-- which they have a separator.
use Rattle.std.proofs.Common.{◌≡◌, ◌≤◌, ℤ, pos, neg_ℤ, ◌*ℤ◌, unsigned_abs, true, false, [], ◌∷◌, refl, sym, arith, inl, inr}
use Rattle.std.proofs.lemmas.Int.{ints}
use Rattle.std.proofs.lemmas.List.Elements.{All-from_recursion}
use Rattle.qm_numbers.specs.Rounding.{IsRoundedDown, IsRoundedUp}
use Rattle.qm_space.specs.Bounds.{normal_bound}
use Rattle.qm_space.specs.Point.{IsCoordinate, AreCoordinates}
use Rattle.qm_space.specs.Meet.{meet}
use Rattle.qm_space.specs.Determinant.{determinant}
use Rattle.qm_space.specs.Cuboid.{least_product, greatest_product}
use Rattle.qm_convex.specs.Winding.{next_place, corner_at}
use Rattle.qm_separators.proofs.SeparatorLaw.{none_in_front}
use Rattle.qm_separators.proofs.DoorwaySamples.{doorway, doorway_convex, spot, nearest_itself, left_right, left_right_row}
use Rattle.qm_geom.specs.declared.vector.Vector.{Vector}
use Rattle.qm_narrow.specs.declared.reach.Reach.{Reach}
use Rattle.qm_narrow.specs.declared.spot.Spot.{Spot}
use Rattle.qm_narrow.specs.inner.Trace.{IsSpotOf, fine_units}
use Rattle.qm_narrow.specs.inner.Look.{least_between, least_along, greatest_along, IsReach, IsOutlook, PartsNowhere}
use Rattle.qm_narrow.proofs.Outlooks.{reach_begins, none_back}
use Rattle.qm_narrow.proofs.Looks.{outlook_begins, outlook_past}

-- ---- whole corners

abbrev whole : ℤ → ℤ → ℤ → Spot
whole x y z = record { nearest = x ∷ y ∷ z ∷ []; below = x ∷ y ∷ z ∷ []; above = x ∷ y ∷ z ∷ []; loose = false; fine = record { x = fine_units *ℤ x; y = fine_units *ℤ y; z = fine_units *ℤ z } }

down : (n : ℤ) → IsRoundedDown n (pos 1) n
down n = record { at_most = omega (arith, ints); next = omega (arith, ints) }

up : (n : ℤ) → IsRoundedUp n (pos 1) n
up n = record { at_least = omega (arith, ints); previous = omega (arith, ints) }

in_fine : (n : ℤ) → IsRoundedDown (fine_units *ℤ n) (pos 1) (fine_units *ℤ n)
in_fine n = record { at_most = omega (arith, ints); next = omega (arith, ints) }

fine_in : (n : ℤ) → IsCoordinate n → unsigned_abs (fine_units *ℤ n) ≤ normal_bound
fine_in n is = let l = is.low in let h = is.high in omega (arith, ints)

whole_is : (x y z : ℤ) → IsCoordinate x → IsCoordinate y → IsCoordinate z → IsSpotOf (spot x y z) (whole x y z)
whole_is x y z a b c =
    let near = nearest_itself x y z in
    let inside : AreCoordinates (x ∷ y ∷ z ∷ []) = All-from_recursion IsCoordinate (x ∷ y ∷ z ∷ []) (a, (b, (c, tt))) in
    record {
      nearest = record { of_x = near.x; of_y = near.y; of_z = near.z };
      below = record { of_x = down x; of_y = down y; of_z = down z };
      above = record { of_x = up x; of_y = up y; of_z = up z };
      nearest_in = inside;
      below_in = inside;
      above_in = inside;
      fixed = λ _. record { x = refl; y = refl; z = refl };
      fine = record { of_x = in_fine x; of_y = in_fine y; of_z = in_fine z; small = record { x_small = fine_in x a; y_small = fine_in y b; z_small = fine_in z c } };
    }

coordinate_0 : IsCoordinate (pos 0)
coordinate_0 = record { low = omega (arith, ints); high = omega (arith, ints) }

coordinate_64 : IsCoordinate (pos 64)
coordinate_64 = record { low = omega (arith, ints); high = omega (arith, ints) }

coordinate_16 : IsCoordinate (pos 16)
coordinate_16 = record { low = omega (arith, ints); high = omega (arith, ints) }

coordinate_below : IsCoordinate (neg_ℤ (pos 16))
coordinate_below = record { low = omega (arith, ints); high = omega (arith, ints) }

-- a corner of each doorway

abbrev near : Spot
near = whole (pos 0) (neg_ℤ (pos 16)) (neg_ℤ (pos 16))

abbrev far : Spot
far = whole (pos 64) (pos 16) (neg_ℤ (pos 16))

near_is : IsSpotOf (corner_at (doorway (pos 0)) 0) near
unfolding corner_at next_place meet determinant
near_is = whole_is (pos 0) (neg_ℤ (pos 16)) (neg_ℤ (pos 16)) coordinate_0 coordinate_below coordinate_below

far_is : IsSpotOf (corner_at (doorway (pos 64)) 1) far
unfolding corner_at next_place meet determinant
far_is = whole_is (pos 64) (pos 16) (neg_ℤ (pos 16)) coordinate_64 coordinate_16 coordinate_below

-- ---- the normal of an edge of the near doorway and a corner of the far one: that of a separator, times a number below 0

abbrev across : Vector
across = record { x = neg_ℤ (pos 1024); y = neg_ℤ (pos 2048); z = pos 0 }

abbrev reach : Reach
reach = record { low = pos 32768; high = pos 32768 }

near_low : least_along across near ≡ pos 32768
unfolding least_between least_product
near_low = refl

near_high : greatest_along across near ≡ pos 32768
unfolding greatest_along greatest_product
near_high = refl

far_high : greatest_along across far ≡ neg_ℤ (pos 98304)
unfolding greatest_along greatest_product
far_high = refl

reach_row : IsReach (doorway (pos 0)) across reach
reach_row = reach_begins (doorway (pos 0)) (doorway_convex (pos 0)) across 0 (omega arith) near near_is reach (sym near_low) (sym near_high)

abbrev far_reach : Reach
far_reach = record { low = neg_ℤ (pos 98304); high = neg_ℤ (pos 98304) }

far_low : least_along across far ≡ neg_ℤ (pos 98304)
unfolding least_between least_product
far_low = refl

far_row : IsReach (doorway (pos 64)) across far_reach
far_row = reach_begins (doorway (pos 64)) (doorway_convex (pos 64)) across 1 (omega arith) far far_is far_reach (sym far_low) (sym far_high)

outlook_row : IsOutlook (doorway (pos 0)) (doorway (pos 64)) across (record { ahead = false; back = true })
outlook_row = outlook_past (doorway (pos 0)) (doorway (pos 64)) across (pos 0) reach far_reach (record { ahead = true; back = true }) (record { ahead = false; back = true }) reach_row far_row
    (outlook_begins (doorway (pos 0)) (doorway (pos 64)) across (record { ahead = true; back = true }) refl refl)
    (λ _. inr (omega (arith, ints)))
    inl

refused_row : PartsNowhere (doorway (pos 0)) (doorway (pos 64)) across
refused_row = outlook_row.ahead refl

not_refused_row : PartsNowhere (doorway (pos 64)) (doorway (pos 0)) across → ⊥
not_refused_row = none_back across left_right (neg_ℤ (pos 1024)) refl (doorway (pos 0)) (doorway (pos 64)) (none_in_front (doorway (pos 0)) (doorway (pos 64)) left_right left_right_row) left_right_row.in_front (omega (arith, ints))
