-- Worked rows: a chain that goes from one doorway through the next and on to a third; and one that two separators block.
use Rattle.std.proofs.Common.{◌≡◌, ℤ, pos, neg_ℤ, ◌+ℤ◌, ◌-ℤ◌, ◌*ℤ◌, ◌<ℤ◌, Some, None, refl, arith, ⊎_elim}
use Rattle.std.proofs.lemmas.Int.{ints}
use Rattle.qm_numbers.proofs.IntegerProducts.{linear, neg-*ℤ, -ℤ-*ℤ, one_*ℤ, zero_*ℤ}
use Rattle.qm_numbers.proofs.Signs.{product_positive}
use Rattle.qm_space.specs.Point.{Point}
use Rattle.qm_space.specs.Plane.{plane_of, value, IsInFront, flipped}
use Rattle.qm_space.specs.Line.{IsBetween}
use Rattle.qm_space.proofs.Planes.{value_flipped}
use Rattle.qm_convex.specs.Winding.{Winding, IsInRegion}
use Rattle.qm_convex.specs.Sides.{IsWhollyInFront}
use Rattle.qm_convex.specs.Cut.{IsPartInFront}
use Rattle.qm_convex.specs.inner.Square.{square}
use Rattle.qm_convex.proofs.Squares.{square_region, square_convex, turn_y_z}
use Rattle.qm_convex.proofs.Cutting.{whole_is_part}
use Rattle.qm_space.specs.Cube.{wall_y, wall_z}
use Rattle.qm_coarse_rows.proofs.RoomSamples.{at}
use Rattle.qm_segments.specs.Segment.{Segment}
use Rattle.qm_segments.proofs.RoomSights.{at_value}
use Rattle.qm_separators.specs.Separator.{IsSeparatorFrom}
use Rattle.qm_separators.specs.ChainState.{ChainState, first_state, IsChainState}
use Rattle.qm_separators.specs.ChainStep.{StepsTo, Blocks, first_cut, third_cut}
use Rattle.qm_separators.specs.MayPass.{MayPass}
use Rattle.qm_separators.specs.Meets.{Meets}
use Rattle.qm_separators.proofs.Parts.{part_by_none, part_or_none}
use Rattle.qm_separators.proofs.StepLaw.{not_blocked}
use Rattle.qm_separators.proofs.StepsLead.{leads_on_or_blocks}
use Rattle.qm_separators.proofs.MayPassLaw.{may_pass}
use Rattle.qm_separators.proofs.DoorwaySamples.{side_y, side_z, doorway, spot, doorway_convex, right_left, right_left_row}

-- ---- where the points of a doorway are

doorway_at : (x d : ℤ) (p : Point) → IsInRegion (doorway x) p → value (at d) p ≡ (x -ℤ d) *ℤ p.w
doorway_at x d p r =
    let on = r.on in let e = at_value x p in let f = at_value d p in let g = -ℤ-*ℤ x d p.w in
    omega (arith, linear)

-- a doorway is wholly in front of a plane across x at a lesser place, and wholly behind one at a greater place
before_doorway : (x d : ℤ) → d <ℤ x → IsWhollyInFront (doorway x) (at d)
before_doorway x d l p r = let e = doorway_at x d p r in let m = product_positive (x -ℤ d) p.w (omega (arith, linear)) r.weight in omega (arith, linear)

behind_doorway : (x d : ℤ) → x <ℤ d → IsWhollyInFront (doorway x) (flipped (at d))
behind_doorway x d l p r =
    let e = doorway_at x d p r in let f = value_flipped (at d) p in let g = -ℤ-*ℤ x d p.w in let h = -ℤ-*ℤ d x p.w in
    let m = product_positive (d -ℤ x) p.w (omega (arith, linear)) r.weight in
    omega (arith, linear)

-- ---- from the first doorway through the second

abbrev pub started : ChainState
started = first_state (doorway (pos 0)) (at (pos 0))

abbrev pub through_two : ChainState
through_two = record { source = doorway (pos 0); into = at (pos 0); pass = Some (doorway (pos 64)) }

started_is : IsChainState started
started_is = record { source_convex = doorway_convex (pos 0); source_lies = λ p r. r.on; pass_convex = tt }

through_two_is : IsChainState through_two
through_two_is = record { source_convex = doorway_convex (pos 0); source_lies = λ p r. r.on; pass_convex = doorway_convex (pos 64) }

-- nothing is cut away
pub step_row : StepsTo started (doorway (pos 64)) (at (pos 64)) through_two
step_row = record {
  near = doorway (pos 0);
  far = doorway (pos 64);
  cut = record {
    far_is = whole_is_part (doorway (pos 64)) (at (pos 0)) (doorway_convex (pos 64)) (before_doorway (pos 64) (pos 0) (omega (arith, ints)));
    near_is = whole_is_part (doorway (pos 0)) (flipped (at (pos 64))) (doorway_convex (pos 0)) (behind_doorway (pos 0) (pos 64) (omega (arith, ints)));
  };
  pass = doorway (pos 64);
  pass_is = refl;
  narrowed = part_by_none (doorway (pos 64)) (IsSeparatorFrom None (doorway (pos 0))) (doorway_convex (pos 64)) (λ h is. is);
  source = part_by_none (doorway (pos 0)) (IsSeparatorFrom None (doorway (pos 64))) (doorway_convex (pos 0)) (λ h is. is);
  into_is = refl;
}

-- it does not go back
pub back_row : Blocks started (doorway (neg_ℤ (pos 64))) (flipped (at (neg_ℤ (pos 64))))
back_row = first_cut (λ p r. let e = doorway_at (neg_ℤ (pos 64)) (pos 0) p r in let m = product_positive (pos 64) p.w (omega (arith, ints)) r.weight in let n = neg-*ℤ (pos 64) p.w in let z : neg_ℤ (pos 64) -ℤ pos 0 ≡ neg_ℤ (pos 64) = refl in omega (arith, linear))

-- ---- a line through three doorways

abbrev pub straight : Segment
straight = record { from = spot (neg_ℤ (pos 10)) (pos 0) (pos 0); to = spot (pos 200) (pos 0) (pos 0) }

in_doorway : (x : ℤ) → IsInRegion (doorway x) (spot x (pos 0) (pos 0))
unfolding value
in_doorway x = (square_region (at x) side_y side_z (spot x (pos 0) (pos 0))).1 (omega (arith, ints), omega (arith, ints), record { near = omega (arith, ints); far = omega (arith, ints) }, record { near = omega (arith, ints); far = omega (arith, ints) })

met_row : Meets straight (spot (pos 64) (pos 0) (pos 0)) through_two
unfolding value
met_row = record {
  at = spot (pos 0) (pos 0) (pos 0);
  between = record { times_p = pos 21; times_q = pos 20; times_r = pos 1; some_p = omega (arith, ints); some_q = omega (arith, ints); some_r = omega (arith, ints); sum = refl };
  inside = in_doorway (pos 0);
  behind = omega (arith, ints);
  in_front = omega (arith, ints);
  last = (in_doorway (pos 64), record { times_p = pos 25; times_q = pos 17; times_r = pos 8; some_p = omega (arith, ints); some_q = omega (arith, ints); some_r = omega (arith, ints); sum = refl });
}

third_after : IsBetween (spot (pos 128) (pos 0) (pos 0)) (spot (pos 64) (pos 0) (pos 0)) straight.to
third_after = record { times_p = pos 17; times_q = pos 9; times_r = pos 8; some_p = omega (arith, ints); some_q = omega (arith, ints); some_r = omega (arith, ints); sum = refl }

ahead_of_third : IsInFront (at (pos 128)) straight.to
unfolding value
ahead_of_third = omega (arith, ints)

-- the third may be passed, and the step there leads on
third_may_pass : MayPass through_two (doorway (pos 128)) (at (pos 128))
third_may_pass = may_pass through_two (doorway (pos 128)) (at (pos 128)) straight (spot (pos 64) (pos 0) (pos 0)) (spot (pos 128) (pos 0) (pos 0)) through_two_is (doorway_convex (pos 128)) (λ p r. r.on) met_row (in_doorway (pos 128)) ahead_of_third third_after

pub goes_on_row : (next : ChainState) × StepsTo through_two (doorway (pos 128)) (at (pos 128)) next
goes_on_row = ⊎_elim (λ leads. leads)
    (λ blocks. absurd (not_blocked through_two (doorway (pos 128)) (at (pos 128)) straight (spot (pos 64) (pos 0) (pos 0)) (spot (pos 128) (pos 0) (pos 0)) through_two_is (λ p r. r.on) met_row (in_doorway (pos 128)) ahead_of_third third_after blocks))
    (leads_on_or_blocks through_two (doorway (pos 128)) (at (pos 128)) through_two_is (doorway_convex (pos 128)))

-- ---- an opening in the third wall, far to one side: what two separators leave does not reach it

separator_value : (p : Point) → value right_left p ≡ (p.x -ℤ (p.y +ℤ p.y)) -ℤ (pos 32 *ℤ p.w)
unfolding value
separator_value p = let x = one_*ℤ p.x in let y = minus_two p.y in let z = zero_*ℤ p.z in omega (arith, linear)
  where
    minus_two : (a : ℤ) → neg_ℤ (pos 2) *ℤ a ≡ neg_ℤ (a +ℤ a)
    minus_two a = omega (arith, ints)

y_value : (p : Point) → value (plane_of (pos 0) (pos 1) (pos 0) (pos 200)) p ≡ p.y -ℤ (pos 200 *ℤ p.w)
unfolding value
y_value p = let x = zero_*ℤ p.x in let y = one_*ℤ p.y in let z = zero_*ℤ p.z in omega (arith, linear)

-- 128 is less than twice 200, and 32 more
multiples : (w : ℤ) → pos 0 <ℤ w → ((pos 128 -ℤ pos 0) *ℤ w) <ℤ (((pos 200 *ℤ w) +ℤ (pos 200 *ℤ w)) +ℤ (pos 32 *ℤ w))
multiples w h = omega (arith, ints)

-- the part of a wide wall where y is above 200
module _ (aside : Winding) (is : IsPartInFront aside (square (at (pos 128)) wall_y wall_z) (plane_of (pos 0) (pos 1) (pos 0) (pos 200))) where
  aside_at : (d : ℤ) (p : Point) → IsInRegion aside p → value (at d) p ≡ (pos 128 -ℤ d) *ℤ p.w
  aside_at d p r =
      let its = (is.points p).0 r in
      let on = its.0.on in let e = at_value (pos 128) p in let f = at_value d p in let g = -ℤ-*ℤ (pos 128) d p.w in
      omega (arith, linear)

  aside_in_front : IsWhollyInFront aside (at (pos 0))
  aside_in_front p r = let e = aside_at (pos 0) p r in let m = product_positive (pos 128) p.w (omega (arith, ints)) r.weight in omega (arith, linear)

  -- no point of it is in front of the separator on that side
  beside_separator : (p : Point) → IsInRegion aside p → IsInFront right_left p → ⊥
  beside_separator p r front =
      let its = (is.points p).0 r in
      let e = at_value (pos 0) p in let f = separator_value p in let g = y_value p in let h = aside_at (pos 0) p r in let w = r.weight in let y = its.1 in
      let a = zero_*ℤ p.w in let k = multiples p.w r.weight in
      omega (arith, linear)

  blocked_row : Blocks through_two aside (at (pos 128))
  blocked_row = third_cut
      (record { far_is = whole_is_part aside (at (pos 0)) is.convex aside_in_front; near_is = whole_is_part (doorway (pos 0)) (flipped (at (pos 128))) (doorway_convex (pos 0)) (behind_doorway (pos 0) (pos 128) (omega (arith, ints))) })
      (λ p r all. beside_separator p r (all right_left right_left_row))

-- there is such a part
aside_row : (aside : Winding) × IsPartInFront aside (square (at (pos 128)) wall_y wall_z) (plane_of (pos 0) (pos 1) (pos 0) (pos 200))
unfolding value
aside_row = ⊎_elim (λ part. part)
    (λ none. absurd (let l = none (spot (pos 128) (pos 300) (pos 0)) ((square_region (at (pos 128)) wall_y wall_z (spot (pos 128) (pos 300) (pos 0))).1 (omega (arith, ints), omega (arith, ints), record { near = omega (arith, ints); far = omega (arith, ints) }, record { near = omega (arith, ints); far = omega (arith, ints) })) in omega (arith, ints, l)))
    (part_or_none (square (at (pos 128)) wall_y wall_z) (plane_of (pos 0) (pos 1) (pos 0) (pos 200)) (square_convex (at (pos 128)) wall_y wall_z (let e = turn_y_z (at (pos 128)) in omega (arith, ints)) (omega (arith, ints)) (omega (arith, ints))))

blocked_there : Blocks through_two aside_row.0 (at (pos 128))
blocked_there = blocked_row aside_row.0 aside_row.1
