-- Worked rows: the cube parted by the floor of the ground, with a triangle on the floor.
use Rattle.std.proofs.Common.{◌≡◌, inr, ℕ, zero, suc, ◌<◌, true, false, ℤ, pos, neg_ℤ, ◌+ℤ◌, ◌-ℤ◌, ◌*ℤ◌, ◌<ℤ◌, [], ◌∷◌, ◌++◌, All, refl, ap, arith}
use Rattle.std.proofs.lemmas.Int.{ints}
use Rattle.std.proofs.lemmas.List.Elements.{All-from_recursion, All-nil}
use Rattle.qm_numbers.proofs.IntegerProducts.{linear}
use Rattle.qm_numbers.proofs.Signs.{product_positive}
use Rattle.qm_numbers.proofs.Ring.{number, variable, ◌⊕◌, ◌⊖◌, ◌⊗◌, solved}
use Rattle.qm_space.specs.Bounds.{extent}
use Rattle.qm_space.specs.Point.{Point, IsInCube}
use Rattle.qm_space.specs.Plane.{Plane, plane_of, value, IsInFront, flipped}
use Rattle.qm_space.specs.Determinant.{determinant}
use Rattle.qm_space.specs.Meet.{meet}
use Rattle.qm_space.specs.Reduced.{HasNormal, IsReduced}
use Rattle.qm_space.specs.Multiple.{HasSameSides}
use Rattle.qm_space.proofs.Planes.{value_flipped, flipped_on}
use Rattle.qm_space.proofs.ReducedPlanes.{flipped_is_reduced}
use Rattle.qm_convex.specs.Winding.{Winding, next_place, corner_at, edge_at, IsConvex, IsInRegion}
use Rattle.qm_convex.specs.Sides.{HasNoneInFront}
use Rattle.qm_solids.specs.Cells.{ContainsCell}
use Rattle.qm_solids.specs.Candidates.{IsOnFace}
use Rattle.qm_solids.specs.Uniform.{MeetsNoFace, LiesOutside}
use Rattle.qm_solids.proofs.Samples.{ground, ground_is_full}
use Rattle.qm_solids.proofs.FullSolids.{middle_of_cube, middle_in_cube}
use Rattle.qm_solids.proofs.UniformSamples.{floor, floor_is_reduced, height, of_ground}
use Rattle.qm_space.specs.Cell.{HasPoint}
use Rattle.qm_solid_tree.proofs.PartedCells.{side_of, both_sides, IsPartOn, SparesSide, contains_side, side_spared, contains_front, outside_front}

-- the triangle of the points of the floor with x and y above 0 and x + y below the extent of the cube
abbrev triangle : Winding
triangle = record {
  plane = floor;
  edges = plane_of (pos 0) (pos 1) (pos 0) (pos 0) ∷ plane_of (neg_ℤ (pos 1)) (neg_ℤ (pos 1)) (pos 0) (neg_ℤ extent) ∷ plane_of (pos 1) (pos 0) (pos 0) (pos 0) ∷ [];
}

triangle_weight : (i : ℕ) → i < 3 → pos 0 <ℤ (corner_at triangle i).w
unfolding corner_at next_place meet determinant
triangle_weight zero within = omega (arith, ints)
triangle_weight (suc zero) within = omega (arith, ints)
triangle_weight (suc (suc zero)) within = omega (arith, ints)
triangle_weight (suc (suc (suc i))) within = absurd (omega arith)

triangle_inside : (i k : ℕ) → i < 3 → k < 3 → (k ≡ i → ⊥) → (k ≡ next_place 3 i → ⊥) → IsInFront (edge_at triangle k) (corner_at triangle i)
unfolding corner_at next_place meet determinant value
triangle_inside zero zero i_within k_within other next = absurd (other refl)
triangle_inside zero (suc zero) i_within k_within other next = absurd (next refl)
triangle_inside zero (suc (suc zero)) i_within k_within other next = omega (arith, ints)
triangle_inside (suc zero) zero i_within k_within other next = omega (arith, ints)
triangle_inside (suc zero) (suc zero) i_within k_within other next = absurd (other refl)
triangle_inside (suc zero) (suc (suc zero)) i_within k_within other next = absurd (next refl)
triangle_inside (suc (suc zero)) zero i_within k_within other next = absurd (next refl)
triangle_inside (suc (suc zero)) (suc zero) i_within k_within other next = omega (arith, ints)
triangle_inside (suc (suc zero)) (suc (suc zero)) i_within k_within other next = absurd (other refl)
triangle_inside (suc (suc (suc i))) k i_within k_within other next = absurd (omega arith)
triangle_inside i (suc (suc (suc k))) i_within k_within other next = absurd (omega arith)

triangle_convex : IsConvex triangle
triangle_convex = record { enough = omega arith; weight = triangle_weight; inside = triangle_inside }

-- ---- the triangle lies in the cube

module _ (p : Point) where
  by_y : value (plane_of (pos 0) (pos 1) (pos 0) (pos 0)) p ≡ p.y
  unfolding value
  by_y =
      let v = variable in let o = number (pos 0) in
      solved (p.x ∷ p.y ∷ p.z ∷ p.w ∷ []) (o ⊗ v 0 ⊕ number (pos 1) ⊗ v 1 ⊕ o ⊗ v 2 ⊖ o ⊗ v 3) (v 1) tt

  by_sum : value (plane_of (neg_ℤ (pos 1)) (neg_ℤ (pos 1)) (pos 0) (neg_ℤ extent)) p ≡ (extent *ℤ p.w) -ℤ (p.x +ℤ p.y)
  unfolding value
  by_sum =
      let v = variable in let o = number (pos 0) in let m = number (neg_ℤ (pos 1)) in
      solved (p.x ∷ p.y ∷ p.z ∷ p.w ∷ []) (m ⊗ v 0 ⊕ m ⊗ v 1 ⊕ o ⊗ v 2 ⊖ number (neg_ℤ extent) ⊗ v 3) (number extent ⊗ v 3 ⊖ (v 0 ⊕ v 1)) tt

  by_x : value (plane_of (pos 1) (pos 0) (pos 0) (pos 0)) p ≡ p.x
  unfolding value
  by_x =
      let v = variable in let o = number (pos 0) in
      solved (p.x ∷ p.y ∷ p.z ∷ p.w ∷ []) (number (pos 1) ⊗ v 0 ⊕ o ⊗ v 1 ⊕ o ⊗ v 2 ⊖ o ⊗ v 3) (v 0) tt

triangle_in_cube : (p : Point) → IsInRegion triangle p → IsInCube p
triangle_in_cube p r =
    let on = r.on in
    let z = height p in
    let first = r.inside 0 floor (omega arith) in let y = by_y p in
    let second = r.inside 1 floor (omega arith) in let sum = by_sum p in
    let third = r.inside 2 floor (omega arith) in let x = by_x p in
    let wide = product_positive extent p.w (omega (arith, ints)) r.weight in
    record {
      weight = r.weight;
      x = record { above = omega (arith, linear); below = omega (arith, linear) };
      y = record { above = omega (arith, linear); below = omega (arith, linear) };
      z = record { above = omega (arith, linear); below = omega (arith, linear) };
    }

triangle_is_part : IsPartOn triangle [] floor
triangle_is_part = record {
  convex = triangle_convex;
  on = λ p r. r.on;
  in_cube = triangle_in_cube;
  in_cell = λ p r. All-nil (λ h. IsInFront h p);
}

-- ---- both sides

floor_normal : HasNormal floor
floor_normal x y z = absurd (omega (arith, ints))

-- the floor parts the cube
above_has_point : HasPoint (side_of [] floor true)
above_has_point = both_sides [] floor (middle_of_cube) true floor_normal middle_in_cube (All-nil (λ h. IsInFront h middle_of_cube)) (height middle_of_cube)

-- no face of the ground meets a side
ground_misses_below : MeetsNoFace ground (side_of [] floor false)
ground_misses_below face x among on_face = of_ground (λ f. IsOnFace ground (side_of [] floor false) f x → ⊥)
    (λ met. let on = met.on in let below = met.in_cell 0 floor (omega arith) in let e = value_flipped floor x in absurd (omega (arith, linear)))
    face among on_face

ground_misses_above : MeetsNoFace ground (side_of [] floor true)
ground_misses_above face x among on_face = of_ground (λ f. IsOnFace ground (side_of [] floor true) f x → ⊥)
    (λ met. let on = met.on in let above = met.in_cell 0 floor (omega arith) in absurd (omega (arith, linear)))
    face among on_face

floor_not_down : HasSameSides floor (flipped floor) → ⊥
floor_not_down same = apart same.times same.factor same.some_times same.some_factor (ap (λ (h : Plane). h.nz) same.multiple)
  where
    apart : (k m : ℤ) → pos 0 <ℤ k → pos 0 <ℤ m → k *ℤ pos 1 ≡ m *ℤ neg_ℤ (pos 1) → ⊥
    apart k m some_k some_m e = absurd (omega (arith, ints))

none_above_floor : HasNoneInFront triangle floor
none_above_floor p r = let on = r.on in omega (arith, linear)

-- the ground spares what is below, and contains it
ground_spares_below : SparesSide ground triangle floor false
ground_spares_below = record {
  none_in_front = λ g among. of_ground (λ f. HasNoneInFront triangle f) none_above_floor g among;
  none_same = λ g among. of_ground (λ f. HasSameSides f (flipped floor) → ⊥) floor_not_down g among;
}

ground_contains_below : ContainsCell ground (side_of [] floor false)
ground_contains_below = contains_side ground [] floor false triangle floor_normal triangle_is_part ground_is_full ground_misses_below ground_spares_below

spared_again : SparesSide ground triangle floor false
spared_again = side_spared ground [] floor false triangle floor_normal triangle_is_part ground_contains_below

-- though no point of the triangle is above the floor, the ground doesn't contain what is: its own plane has those sides
all_reduced : All IsReduced ground.outward
all_reduced = All-from_recursion IsReduced ground.outward (floor_is_reduced, tt)

ground_outside_above : LiesOutside ground (side_of [] floor true)
ground_outside_above = outside_front ground [] floor triangle floor_is_reduced all_reduced triangle_is_part ground_misses_above floor (0, omega arith, refl) (inr refl)

-- seen from below
triangle_part_from_below : IsPartOn triangle [] (flipped floor)
triangle_part_from_below = record {
  convex = triangle_convex;
  on = λ p r. (flipped_on floor p).1 r.on;
  in_cube = triangle_in_cube;
  in_cell = λ p r. All-nil (λ h. IsInFront h p);
}

ground_contains_front_of_flipped : ContainsCell ground ([] ++ flipped floor ∷ [])
ground_contains_front_of_flipped =
    contains_front ground [] (flipped floor) triangle (flipped_is_reduced floor floor_is_reduced) all_reduced triangle_part_from_below ground_misses_below ground_is_full
    (λ g among. of_ground (λ f. HasNoneInFront triangle f × (f ≡ flipped floor → ⊥)) (none_above_floor, (λ e. let z = ap (λ (h : Plane). h.nz) e in cc)) g among)
