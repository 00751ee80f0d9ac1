-- Worked rows: two doorways one behind the other, their separators, and steps of a chain that goes through both.
use Rattle.std.proofs.Common.{◌≡◌, ℕ, ◌<◌, ℤ, pos, neg_ℤ, ◌*◌, ◌≤◌, ◌-ℤ◌, ◌*ℤ◌, ◌<ℤ◌, List, [], ◌∷◌, length, get_or, All, Contains, slice_get, refl, ap, sym, subst, arith, unsigned_abs, inl, inr, ⊎_elim}
use Rattle.std.proofs.lemmas.Int.{ints}
use Rattle.std.proofs.lemmas.List.Elements.{All-from_recursion}
use Rattle.std.proofs.Math.Nat.{eq-one_of_dvd-one}
use Rattle.qm_numbers.specs.Rounding.{IsNearest, IsRoundedDown}
use Rattle.qm_space.specs.Point.{Point}
use Rattle.qm_space.specs.Plane.{Plane, plane_of, value, IsNotInFront, IsNotBehind}
use Rattle.qm_space.specs.Meet.{meet}
use Rattle.qm_space.specs.Determinant.{determinant}
use Rattle.qm_space.specs.ThreePoints.{outward_plane}
use Rattle.qm_convex.specs.Winding.{Winding, next_place, corner_at, corners, IsConvex}
use Rattle.qm_convex.specs.Sides.{HasNoCornerBehind}
use Rattle.qm_convex.specs.inner.Square.{square}
use Rattle.qm_convex.proofs.Squares.{square_convex}
use Rattle.qm_coarse_rows.proofs.RoomSamples.{at}
use Rattle.qm_separators.specs.WholePoints.{IsNearestPoint, IsAround}
use Rattle.qm_separators.specs.Across.{HasLowestNormal, HasNormalOf, HasNormalAcross}
use Rattle.qm_separators.specs.Separator.{IsSeparator}
use Rattle.qm_separators.specs.Gains.{Gains}
use Rattle.qm_lists.proofs.Elements.{Contains-cons_cases}
use Rattle.qm_separators.proofs.ListedPlanes.{no_element}
use Rattle.qm_separators.proofs.GainedPlanes.{gains_one}
use Rattle.qm_separators.proofs.CornerLists.{all_corners}
use Rattle.qm_separators.proofs.Distances.{least_by_neighbours}
use Rattle.qm_separators.specs.inner.Found.{PartsAlong, SeparatesBy}

-- ---- a doorway: y and z between -16 and 16

abbrev pub side_y : Plane
side_y = plane_of (pos 0) (pos 1) (pos 0) (neg_ℤ (pos 16))

abbrev pub side_z : Plane
side_z = plane_of (pos 0) (pos 0) (pos 1) (neg_ℤ (pos 16))

abbrev pub doorway : ℤ → Winding
doorway x = square (at x) side_y side_z

abbrev pub spot : ℤ → ℤ → ℤ → Point
spot x y z = record { x = x; y = y; z = z; w = pos 1 }

pub doorway_convex : (x : ℤ) → IsConvex (doorway x)
unfolding meet determinant
doorway_convex x = square_convex (at x) side_y side_z (omega (arith, ints)) (omega (arith, ints)) (omega (arith, ints))

abbrev low : ℤ
low = neg_ℤ (pos 16)

abbrev high : ℤ
high = pos 16

near_corners : corners (doorway (pos 0)) ≡ spot (pos 0) low low ∷ spot (pos 0) high low ∷ spot (pos 0) high high ∷ spot (pos 0) low high ∷ []
unfolding corner_at next_place meet determinant
near_corners = refl

far_corners : corners (doorway (pos 64)) ≡ spot (pos 64) low low ∷ spot (pos 64) high low ∷ spot (pos 64) high high ∷ spot (pos 64) low high ∷ []
unfolding corner_at next_place meet determinant
far_corners = refl

-- ---- a whole point is the nearest to itself, and around itself

whole_nearest : (n : ℤ) → IsNearest n (pos 1) n
whole_nearest n = record { near = size; away = λ e. absurd (omega (arith, e, zero_size)) }
  where
    zero_size : unsigned_abs (n -ℤ (n *ℤ pos 1)) ≡ 0
    zero_size = omega (arith, ints)

    size : 2 * unsigned_abs (n -ℤ (n *ℤ pos 1)) ≤ unsigned_abs (pos 1)
    size = omega (arith, zero_size)

whole_down : (n : ℤ) → IsRoundedDown n (pos 1) n
whole_down n = record { at_most = omega (arith, ints); next = omega (arith, ints) }

pub nearest_itself : (x y z : ℤ) → IsNearestPoint (spot x y z) (spot x y z)
nearest_itself x y z = record { x = whole_nearest x; y = whole_nearest y; z = whole_nearest z; weight = refl }

pub around_itself : (x y z : ℤ) → IsAround (spot x y z) (spot x y z)
around_itself x y z = record { x = inl (whole_down x); y = inl (whole_down y); z = inl (whole_down z); weight = refl }

-- ---- the plane from the left side of the near doorway to the right side of the far one

abbrev pub left_right : Plane
left_right = plane_of (pos 1) (pos 2) (pos 0) (pos 32)

left_right_lowest : HasLowestNormal left_right
left_right_lowest k x y z = eq-one_of_dvd-one x

left_right_normal : HasNormalOf (spot (pos 64) low low) (spot (pos 0) high low) (spot (pos 0) high high) left_right
unfolding outward_plane
left_right_normal = record { factor = neg_ℤ (pos 1024); some_factor = λ e. omega (arith, ints, e); multiple = refl; lowest = left_right_lowest }

left_right_across : HasNormalAcross (corners (doorway (pos 0))) (corners (doorway (pos 64))) left_right
unfolding next_place
left_right_across = record {
  place = 1;
  first = spot (pos 0) high low;
  second = spot (pos 0) high high;
  corner = spot (pos 64) low low;
  first_is = ap (λ (ps : List Point). slice_get ps 1) near_corners;
  second_is = ap (λ (ps : List Point). slice_get ps (next_place (length ps) 1)) near_corners;
  corner_is = subst (λ (ps : List Point). Contains ps (spot (pos 64) low low)) (sym far_corners) (0, omega arith, refl);
  from = spot (pos 0) high low;
  to = spot (pos 0) high high;
  at = spot (pos 64) low low;
  from_is = nearest_itself (pos 0) high low;
  to_is = nearest_itself (pos 0) high high;
  at_is = around_itself (pos 64) low low;
  normal = left_right_normal;
}

module _ (h : Plane) (far_front : All (λ p. IsNotBehind h p) (spot (pos 64) low low ∷ spot (pos 64) high low ∷ spot (pos 64) high high ∷ spot (pos 64) low high ∷ [])) where
  none_behind_far : HasNoCornerBehind (doorway (pos 64)) h
  none_behind_far = all_corners (λ p. IsNotBehind h p) (doorway (pos 64)) (subst (λ (ps : List Point). All (λ p. IsNotBehind h p) ps) (sym far_corners) far_front)

near_weights : (i : ℕ) (d : Point) → i < length (corners (doorway (pos 0))) → pos 0 <ℤ (get_or (corners (doorway (pos 0))) i d).w
near_weights = subst (λ (ps : List Point). All (λ p. pos 0 <ℤ p.w) ps) (sym near_corners) (All-from_recursion (λ p. pos 0 <ℤ p.w) (spot (pos 0) low low ∷ spot (pos 0) high low ∷ spot (pos 0) high high ∷ spot (pos 0) low high ∷ []) (omega (arith, ints), (omega (arith, ints), (omega (arith, ints), (omega (arith, ints), tt)))))

pub left_right_row : IsSeparator (doorway (pos 0)) (doorway (pos 64)) left_right
unfolding value corner_at next_place meet determinant
left_right_row = record {
  across = inl left_right_across;
  touches = least_by_neighbours (pos 1 ∷ pos 2 ∷ pos 0 ∷ []) (corners (doorway (pos 0))) (pos 32) near_weights
      (subst (λ (ps : List Point). All (λ p. IsNotInFront left_right p) ps) (sym near_corners) (All-from_recursion (λ p. IsNotInFront left_right p) (spot (pos 0) low low ∷ spot (pos 0) high low ∷ spot (pos 0) high high ∷ spot (pos 0) low high ∷ []) (omega (arith, ints), (omega (arith, ints), (omega (arith, ints), (omega (arith, ints), tt))))))
      (1, spot (pos 0) high low, omega arith, refl, omega (arith, ints));
  in_front = none_behind_far left_right (All-from_recursion (λ p. IsNotBehind left_right p) (spot (pos 64) low low ∷ spot (pos 64) high low ∷ spot (pos 64) high high ∷ spot (pos 64) low high ∷ []) (omega (arith, ints), (omega (arith, ints), (omega (arith, ints), (omega (arith, ints), tt)))));
  strict = inl (0, omega arith, omega (arith, ints));
  small = record { x = omega arith; y = omega arith; z = omega arith };
}

-- ---- and the one from the right side of the near doorway to the left side of the far one

abbrev pub right_left : Plane
right_left = plane_of (pos 1) (neg_ℤ (pos 2)) (pos 0) (pos 32)

right_left_lowest : HasLowestNormal right_left
right_left_lowest k x y z = eq-one_of_dvd-one x

right_left_normal : HasNormalOf (spot (pos 64) high low) (spot (pos 0) low high) (spot (pos 0) low low) right_left
unfolding outward_plane
right_left_normal = record { factor = neg_ℤ (pos 1024); some_factor = λ e. omega (arith, ints, e); multiple = refl; lowest = right_left_lowest }

right_left_across : HasNormalAcross (corners (doorway (pos 0))) (corners (doorway (pos 64))) right_left
unfolding next_place
right_left_across = record {
  place = 3;
  first = spot (pos 0) low high;
  second = spot (pos 0) low low;
  corner = spot (pos 64) high low;
  first_is = ap (λ (ps : List Point). slice_get ps 3) near_corners;
  second_is = ap (λ (ps : List Point). slice_get ps (next_place (length ps) 3)) near_corners;
  corner_is = subst (λ (ps : List Point). Contains ps (spot (pos 64) high low)) (sym far_corners) (1, omega arith, refl);
  from = spot (pos 0) low high;
  to = spot (pos 0) low low;
  at = spot (pos 64) high low;
  from_is = nearest_itself (pos 0) low high;
  to_is = nearest_itself (pos 0) low low;
  at_is = around_itself (pos 64) high low;
  normal = right_left_normal;
}

pub right_left_row : IsSeparator (doorway (pos 0)) (doorway (pos 64)) right_left
unfolding value corner_at next_place meet determinant
right_left_row = record {
  across = inl right_left_across;
  touches = least_by_neighbours (pos 1 ∷ neg_ℤ (pos 2) ∷ pos 0 ∷ []) (corners (doorway (pos 0))) (pos 32) near_weights
      (subst (λ (ps : List Point). All (λ p. IsNotInFront right_left p) ps) (sym near_corners) (All-from_recursion (λ p. IsNotInFront right_left p) (spot (pos 0) low low ∷ spot (pos 0) high low ∷ spot (pos 0) high high ∷ spot (pos 0) low high ∷ []) (omega (arith, ints), (omega (arith, ints), (omega (arith, ints), (omega (arith, ints), tt))))))
      (0, spot (pos 0) low low, omega arith, refl, omega (arith, ints));
  in_front = none_behind_far right_left (All-from_recursion (λ p. IsNotBehind right_left p) (spot (pos 64) low low ∷ spot (pos 64) high low ∷ spot (pos 64) high high ∷ spot (pos 64) low high ∷ []) (omega (arith, ints), (omega (arith, ints), (omega (arith, ints), (omega (arith, ints), tt)))));
  strict = inl (1, omega arith, omega (arith, ints));
  small = record { x = omega arith; y = omega arith; z = omega arith };
}

-- ---- the other definitions

-- a half goes away from 0
nearest_row : IsNearestPoint (record { x = pos 1; y = neg_ℤ (pos 1); z = pos 3; w = pos 2 }) (spot (pos 1) (neg_ℤ (pos 1)) (pos 2))
nearest_row = record { x = record { near = omega arith; away = λ e. omega arith }; y = record { near = omega arith; away = λ e. omega arith }; z = record { near = omega arith; away = λ e. omega arith }; weight = refl }

-- one of the eight around it: down, down and up
around_row : IsAround (record { x = pos 1; y = neg_ℤ (pos 1); z = pos 3; w = pos 2 }) (spot (pos 0) (neg_ℤ (pos 1)) (pos 2))
around_row = record { x = inl (record { at_most = omega (arith, ints); next = omega (arith, ints) }); y = inl (record { at_most = omega (arith, ints); next = omega (arith, ints) }); z = inr (record { at_least = omega (arith, ints); previous = omega (arith, ints) }); weight = refl }

gains_row : Gains (λ h. h ≡ left_right) (right_left ∷ []) (right_left ∷ left_right ∷ [])
gains_row = gains_one (right_left ∷ []) left_right (λ there. ⊎_elim (λ same. absurd (let e = ap (λ (h : Plane). h.ny) same in cc)) (λ none. no_element left_right none) (Contains-cons_cases right_left left_right [] there))

-- it is found along its own normal, and through the points of an edge and a corner
found_row : PartsAlong (doorway (pos 0)) (doorway (pos 64)) left_right left_right
unfolding left_right_row
found_row = record { normal = refl; touches = left_right_row.touches; parts = record { in_front = left_right_row.in_front; strict = left_right_row.strict } }

found_through_row : SeparatesBy (doorway (pos 0)) (doorway (pos 64)) (spot (pos 64) low low) (spot (pos 0) high low) (spot (pos 0) high high) left_right
found_through_row = (left_right_row, left_right_normal)
