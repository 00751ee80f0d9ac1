-- Worked rows: planes on one another, cells that no face meets, and full solids.
use Rattle.std.proofs.Common.{◌≡◌, ◌⊎◌, ℕ, zero, suc, true, false, ℤ, pos, neg_ℤ, ◌+ℤ◌, ◌-ℤ◌, ◌*ℤ◌, ◌<ℤ◌, List, [], ◌∷◌, Contains, Some, refl, ap, arith, subst, ◌<◌, length, All}
use Rattle.std.proofs.lemmas.Int.{ints}
use Rattle.std.proofs.lemmas.List.Elements.{All-from_recursion, All-contains, All-nil}
use Rattle.std.specs.Prelude.{slice_get, IsTrue}
use Rattle.qm_numbers.proofs.IntegerProducts.{linear}
use Rattle.qm_numbers.proofs.Signs.{product_positive}
use Rattle.qm_numbers.proofs.Ring.{number, variable, negated, ◌⊕◌, ◌⊖◌, ◌⊗◌, solved}
use Rattle.qm_space.specs.Bounds.{extent}
use Rattle.qm_space.specs.Point.{Point, IsInCube}
use Rattle.qm_space.specs.Plane.{Plane, plane_of, value, IsBehind, IsInFront, flipped}
use Rattle.qm_space.specs.Reduced.{leads_positive, IsReduced}
use Rattle.qm_space.specs.Book.{AreBookPlanes}
use Rattle.std.proofs.Math.Nat.{eq-one_of_dvd-one}
use Rattle.qm_solids.specs.declared.face.FaceRef.{FaceRef}
use Rattle.qm_solids.specs.Outward.{outward_of}
use Rattle.qm_space.proofs.ReducedPlanes.{flipped_is_reduced}
use Rattle.qm_solids.specs.Solid.{Solid}
use Rattle.qm_solids.specs.Holding.{IsFull}
use Rattle.qm_solids.specs.Cells.{ContainsCell}
use Rattle.qm_solids.specs.Candidates.{IsSamePlane, IsOnFace}
use Rattle.qm_solids.specs.Uniform.{MeetsNoFace, LiesOutside}
use Rattle.qm_contents.specs.declared.contents.Contents.TheVariants as contents
use Rattle.qm_solids.proofs.Insides.{inside_of_behind, behind_all}
use Rattle.qm_solids.proofs.FlatSolids.{AreOpposed, HasOpposedPlanes}
use Rattle.qm_solids.proofs.PlanesInCommon.{lies_on_itself, lies_on_back, lies_on_through, same_face, reduced_lies_on, reduced_same_sides, one_number}
use Rattle.qm_space.proofs.SameSides.{same_sides_itself}
use Rattle.qm_solids.proofs.UniformCells.{contains_throughout, outside_throughout}
use Rattle.qm_solids.proofs.FullSolids.{middle_of_cube, full_by_face, full_by_middle}
use Rattle.qm_solids.proofs.BookFaces.{on_face_by_numbers, behind_other_numbers, same_number_and_side, opposed_numbers, opposed_by_sides_of_one}
use Rattle.qm_solids.proofs.Samples.{at, ground}

-- ---- planes on one another

-- the floor z = 0, by other multiples
abbrev pub floor : Plane
floor = plane_of (pos 0) (pos 0) (pos 1) (pos 0)

abbrev floor_twice : Plane
floor_twice = plane_of (pos 0) (pos 0) (pos 2) (pos 0)

abbrev floor_down : Plane
floor_down = plane_of (pos 0) (pos 0) (neg_ℤ (pos 3)) (pos 0)

-- neither of the last two is a whole multiple of the other
twice_lies_on_down : IsSamePlane floor_twice floor_down
twice_lies_on_down = record { times = pos 3; factor = neg_ℤ (pos 2); some_times = λ e. cc; some_factor = λ e. cc; multiple = refl }

floor_lies_on_twice : IsSamePlane floor floor_twice
floor_lies_on_twice = record { times = pos 2; factor = pos 1; some_times = λ e. cc; some_factor = λ e. cc; multiple = refl }

floor_lies_on_down : IsSamePlane floor floor_down
floor_lies_on_down = lies_on_through floor floor_twice floor_down floor_lies_on_twice twice_lies_on_down

down_lies_on_floor : IsSamePlane floor_down floor
down_lies_on_floor = lies_on_back floor floor_down floor_lies_on_down

-- the floor as the one plane of a book
pub floor_is_reduced : IsReduced floor
floor_is_reduced = record { normal = λ e f g. absurd (omega (arith, ints)); lowest = λ k d e f g. eq-one_of_dvd-one f; nx_small = omega arith; ny_small = omega arith; nz_small = omega arith; d_small = omega arith }

abbrev book : List Plane
book = floor ∷ []

only_floor : (n : ℕ) (h : Plane) → slice_get book n ≡ Some h → floor ≡ h
only_floor zero h is = cc
only_floor (suc n) h is = absurd cc

only_place : (n : ℕ) (h : Plane) → slice_get book n ≡ Some h → n ≡ 0
only_place zero h is = refl
only_place (suc n) h is = absurd cc

are_book : AreBookPlanes book
are_book = record {
  reduced = λ n h is. subst (λ (p : Plane). IsReduced p) (only_floor n h is) floor_is_reduced;
  leads = λ n h is. subst (λ (p : Plane). IsTrue (leads_positive p)) (only_floor n h is) refl;
  distinct = λ m n h is_m is_n. let a = only_place m h is_m in let b = only_place n h is_n in omega (arith, a, b);
  short = omega arith;
}

-- what lies on it in lowest terms is equal to it, or it is that flipped
flipped_row : (flipped floor ≡ floor) ⊎ (flipped floor ≡ flipped floor)
flipped_row = reduced_lies_on (flipped floor) floor (flipped_is_reduced floor floor_is_reduced) floor_is_reduced
    (record { times = pos 1; factor = neg_ℤ (pos 1); some_times = λ e. cc; some_factor = λ e. cc; multiple = refl })

same_sides_row : floor ≡ floor
same_sides_row = reduced_same_sides floor floor floor_is_reduced floor_is_reduced (same_sides_itself floor)

number_row : zero ≡ zero
number_row = one_number book 0 0 floor floor are_book refl refl (lies_on_itself floor)

side_row : (zero ≡ zero) × (true ≡ true)
side_row = same_number_and_side book are_book 0 0 (omega arith) (omega arith) true true (same_sides_itself floor)

opposed_row : (zero ≡ zero) × (true ≡ false → ⊥)
opposed_row = opposed_numbers book are_book 0 0 (omega arith) (omega arith) true false (opposed_by_sides_of_one floor true false (λ e. cc))

-- ---- what is not above the floor, and cells above and below it

module _ (x : Point) where
  pub height : value floor x ≡ x.z
  unfolding value
  height =
      let v = variable in let o = number (pos 0) in
      solved (x.x ∷ x.y ∷ x.z ∷ x.w ∷ []) (o ⊗ v 0 ⊕ o ⊗ v 1 ⊕ number (pos 1) ⊗ v 2 ⊖ o ⊗ v 3) (v 2) tt

  depth : value (plane_of (pos 0) (pos 0) (neg_ℤ (pos 1)) (pos 10)) x ≡ neg_ℤ x.z -ℤ (pos 10 *ℤ x.w)
  unfolding value
  depth =
      let v = variable in let o = number (pos 0) in
      solved (x.x ∷ x.y ∷ x.z ∷ x.w ∷ []) (o ⊗ v 0 ⊕ o ⊗ v 1 ⊕ number (neg_ℤ (pos 1)) ⊗ v 2 ⊖ number (pos 10) ⊗ v 3) (negated (v 2) ⊖ number (pos 10) ⊗ v 3) tt

  above : value (plane_of (pos 0) (pos 0) (pos 1) (pos 10)) x ≡ x.z -ℤ (pos 10 *ℤ x.w)
  unfolding value
  above =
      let v = variable in let o = number (pos 0) in
      solved (x.x ∷ x.y ∷ x.z ∷ x.w ∷ []) (o ⊗ v 0 ⊕ o ⊗ v 1 ⊕ number (pos 1) ⊗ v 2 ⊖ number (pos 10) ⊗ v 3) (v 2 ⊖ number (pos 10) ⊗ v 3) tt

-- the points below z = -10, and those above z = 10
abbrev deep : List Plane
deep = plane_of (pos 0) (pos 0) (neg_ℤ (pos 1)) (pos 10) ∷ []

abbrev high : List Plane
high = plane_of (pos 0) (pos 0) (pos 1) (pos 10) ∷ []

ten_times : (w : ℤ) → pos 0 <ℤ w → pos 0 <ℤ (pos 10 *ℤ w)
ten_times w some = product_positive (pos 10) w (omega (arith, ints)) some

-- what holds of the one face of the ground holds of each
pub of_ground : (P : Plane → Type 0) → P floor → (face : Plane) → Contains ground.outward face → P face
of_ground P is face among = All-contains P ground.outward face (All-from_recursion P ground.outward (is, tt)) among

ground_misses_deep : MeetsNoFace ground deep
ground_misses_deep face x among on_face = of_ground (λ f. IsOnFace ground deep f x → ⊥) missed face among on_face
  where
    missed : IsOnFace ground deep floor x → ⊥
    missed on_face =
        let on = on_face.on in
        let its = height x in
        let below = on_face.in_cell 0 floor (omega arith) in
        let low = depth x in
        let some = ten_times x.w on_face.in_cube.weight in
        absurd (omega (arith, linear))

ground_misses_high : MeetsNoFace ground high
ground_misses_high face x among on_face = of_ground (λ f. IsOnFace ground high f x → ⊥) missed face among on_face
  where
    missed : IsOnFace ground high floor x → ⊥
    missed on_face =
        let on = on_face.on in
        let its = height x in
        let over = on_face.in_cell 0 floor (omega arith) in
        let up = above x in
        let some = ten_times x.w on_face.in_cube.weight in
        absurd (omega (arith, linear))

point_in_cube : (z : ℤ) → neg_ℤ (pos 100) <ℤ z → z <ℤ pos 100 → IsInCube (at (pos 0) (pos 0) z)
point_in_cube z low up = record {
  weight = omega (arith, ints);
  x = record { above = omega (arith, ints); below = omega (arith, ints) };
  y = record { above = omega (arith, ints); below = omega (arith, ints) };
  z = record { above = omega (arith, ints, low, up); below = omega (arith, ints, low, up) };
}

-- the ground contains the one and lies outside the other
ground_contains_deep : ContainsCell ground deep
unfolding value
ground_contains_deep =
    let p = at (pos 0) (pos 0) (neg_ℤ (pos 20)) in
    contains_throughout ground deep ground_misses_deep p (point_in_cube (neg_ℤ (pos 20)) (omega (arith, ints)) (omega (arith, ints)))
    (All-from_recursion (λ h. IsInFront h p) deep (omega (arith, ints), tt))
    (inside_of_behind ground.outward p (All-from_recursion (λ h. IsBehind h p) ground.outward (omega (arith, ints), tt)))

ground_outside_high : LiesOutside ground high
unfolding value
ground_outside_high =
    let p = at (pos 0) (pos 0) (pos 20) in
    outside_throughout ground high ground_misses_high p (point_in_cube (pos 20) (omega (arith, ints)) (omega (arith, ints)))
    (All-from_recursion (λ h. IsInFront h p) high (omega (arith, ints), tt))
    (λ inside. let behind = behind_all ground.outward p inside 0 floor (omega arith) in absurd (omega (arith, ints, behind)))

-- ---- full solids

floor_not_opposed : AreOpposed floor floor → ⊥
floor_not_opposed opposed = apart opposed.times opposed.multiple.factor opposed.some opposed.multiple.positive (ap (λ (h : Plane). h.nz) opposed.multiple.multiple)
  where
    apart : (k m : ℤ) → pos 0 <ℤ k → pos 0 <ℤ m → k *ℤ pos 1 ≡ m *ℤ neg_ℤ (pos 1) → ⊥
    apart k m some_k some_m e = absurd (omega (arith, ints))

ground_has_none_opposed : HasOpposedPlanes ground → ⊥
ground_has_none_opposed has =
    of_ground (λ a. AreOpposed a has.other → ⊥) (λ opposed. of_ground (λ b. AreOpposed floor b → ⊥) floor_not_opposed has.other has.has_other opposed)
    has.one has.has_one has.opposed

-- the middle of the cube is on the floor, by whichever multiple
floor_has_middle : IsOnFace ground [] floor middle_of_cube
floor_has_middle = record {
  in_cube = point_in_cube (pos 0) (omega (arith, ints)) (omega (arith, ints));
  in_cell = All-nil (λ h. IsInFront h middle_of_cube);
  on = height middle_of_cube;
  behind_others = λ other among. of_ground (λ h. (IsSamePlane h floor → ⊥) → IsBehind h middle_of_cube)
      (λ apart. absurd (apart (lies_on_itself floor))) other among;
}

-- the same, by the number of the floor in the book: the ground has no face of another number
abbrev ground_faces : List FaceRef
ground_faces = record { plane = 0; out_is_front = true } ∷ []

numbered : All (λ face. face.plane < length book) ground_faces
numbered = All-from_recursion (λ face. face.plane < length book) ground_faces (omega arith, tt)

behind_none : (face : FaceRef) → Contains ground_faces face → (face.plane ≡ 0 → ⊥) → IsBehind (outward_of book face) middle_of_cube
behind_none face among other = absurd (other (All-contains (λ f. f.plane ≡ 0) ground_faces face (All-from_recursion (λ f. f.plane ≡ 0) ground_faces (refl, tt)) among))

numbered_has_middle : IsOnFace ground [] floor middle_of_cube
numbered_has_middle = on_face_by_numbers book are_book ground ground_faces refl numbered 0 (omega arith) [] middle_of_cube
    floor_has_middle.in_cube floor_has_middle.in_cell floor_has_middle.on behind_none

behind_again : (face : FaceRef) → Contains ground_faces face → (face.plane ≡ 0 → ⊥) → IsBehind (outward_of book face) middle_of_cube
behind_again = behind_other_numbers book are_book ground ground_faces refl numbered 0 (omega arith) [] middle_of_cube numbered_has_middle

down_has_middle : IsOnFace ground [] floor_down middle_of_cube
down_has_middle = same_face ground [] floor floor_down middle_of_cube floor_lies_on_down floor_has_middle

-- so the ground is full
ground_full_by_face : IsFull ground
ground_full_by_face = full_by_face ground floor middle_of_cube ground_has_none_opposed (0, omega arith, refl) floor_has_middle

-- all that is not above a height beyond the cube has no face in the cube, and the middle is inside it
abbrev beyond_cube : ℤ
beyond_cube = extent +ℤ pos 904

abbrev wide : Solid
wide = record { contents = contents.Water; outward = plane_of (pos 0) (pos 0) (pos 1) beyond_cube ∷ [] }

wide_depth : (x : Point) → value (plane_of (pos 0) (pos 0) (pos 1) beyond_cube) x ≡ x.z -ℤ ((extent *ℤ x.w) +ℤ (pos 904 *ℤ x.w))
unfolding value
wide_depth x =
    let v = variable in let o = number (pos 0) in
    solved (x.x ∷ x.y ∷ x.z ∷ x.w ∷ []) (o ⊗ v 0 ⊕ o ⊗ v 1 ⊕ number (pos 1) ⊗ v 2 ⊖ number beyond_cube ⊗ v 3) (v 2 ⊖ (number extent ⊗ v 3 ⊕ number (pos 904) ⊗ v 3)) tt

wide_misses_cube : MeetsNoFace wide []
wide_misses_cube face x among on_face = All-contains (λ f. IsOnFace wide [] f x → ⊥) wide.outward face (All-from_recursion (λ f. IsOnFace wide [] f x → ⊥) wide.outward (missed, tt)) among on_face
  where
    missed : IsOnFace wide [] (plane_of (pos 0) (pos 0) (pos 1) beyond_cube) x → ⊥
    missed on_face =
        let on = on_face.on in
        let e = wide_depth x in
        let below = on_face.in_cube.z.below in
        let some = product_positive (pos 904) x.w (omega (arith, ints)) on_face.in_cube.weight in
        absurd (omega (arith, linear))

wide_is_full : IsFull wide
unfolding value
wide_is_full =
    (full_by_middle wide wide_misses_cube).1
    (inside_of_behind wide.outward middle_of_cube (All-from_recursion (λ h. IsBehind h middle_of_cube) wide.outward (omega (arith, ints), tt)))
