-- Points of a segment: they lie in the cube with the ends, and near each there are points a little further on.
use Rattle.std.proofs.Common.{◌≡◌, ℕ, zero, suc, ◌+◌, ◌*◌, ◌<◌, ◌≤◌, ℤ, pos, ◌+ℤ◌, ◌*ℤ◌, get_or, [], ◌∷◌, arith, mul-le-mul}
use Rattle.std.proofs.lemmas.Int.{ints}
use Rattle.qm_numbers.proofs.IntegerProducts.{linear}
use Rattle.qm_numbers.proofs.Signs.{product_positive, product_not_negative}
use Rattle.qm_numbers.proofs.Ring.{number, variable, ◌⊕◌, ◌⊗◌, solved}
use Rattle.qm_space.specs.Point.{Point, IsInCube}
use Rattle.qm_space.specs.Plane.{Plane, value, IsInFront}
use Rattle.qm_space.specs.Cube.{cube_walls}
use Rattle.qm_space.proofs.Planes.{same_point}
use Rattle.qm_space.proofs.Cubes.{cube_is_cell}
use Rattle.qm_space.proofs.Openness.{moved}
use Rattle.qm_spans.specs.Place.{PlaceOnSegment, place_by_parts, IsEarlierPlace, point_on}
use Rattle.qm_spans.proofs.PlaneEnds.{value_on}

-- ---- in the cube

in_front_between : (h : Plane) (a b : Point) (i j : ℕ) → 0 < i + j → IsInFront h a → IsInFront h b → IsInFront h (point_on a b i j)
in_front_between h a b zero zero some front_a front_b = absurd (omega (arith, some))
in_front_between h a b zero (suc j) some front_a front_b =
    let e = value_on h a b 0 (suc j) in
    let s = product_not_negative (pos 0) (value h a) (omega (arith, ints)) (omega (arith, linear, front_a)) in
    let t = product_positive (pos (suc j)) (value h b) (omega (arith, ints)) front_b in
    omega (arith, linear, e, s, t)
in_front_between h a b (suc i) j some front_a front_b =
    let e = value_on h a b (suc i) j in
    let s = product_positive (pos (suc i)) (value h a) (omega (arith, ints)) front_a in
    let t = product_not_negative (pos j) (value h b) (omega (arith, ints)) (omega (arith, linear, front_b)) in
    omega (arith, linear, e, s, t)

pub segment_in_cube : (a b : Point) (i j : ℕ) → 0 < i + j → IsInCube a → IsInCube b → IsInCube (point_on a b i j)
segment_in_cube a b i j some in_a in_b =
    (cube_is_cell (point_on a b i j)).1
    (λ place h there. in_front_between (get_or cube_walls place h) a b i j some ((cube_is_cell a).0 in_a place h there) ((cube_is_cell b).0 in_b place h there))

-- a place after another has parts before it
pub parts_after : (p : PlaceOnSegment) (i j : ℕ) → IsEarlierPlace p (place_by_parts i j) → 0 < i + j
parts_after p i zero less = absurd (omega (arith, less))
parts_after p i (suc j) less = omega arith

-- ---- a little further on

moved_number : (k i j : ℕ) (a b : ℤ) → (pos k *ℤ ((pos i *ℤ a) +ℤ (pos j *ℤ b))) +ℤ b ≡ (pos (k * i) *ℤ a) +ℤ (pos (k * j + 1) *ℤ b)
moved_number k i j a b =
    let v = variable in
    solved (pos k ∷ pos i ∷ pos j ∷ a ∷ b ∷ []) (v 0 ⊗ (v 1 ⊗ v 3 ⊕ v 2 ⊗ v 4) ⊕ v 4) ((v 0 ⊗ v 1) ⊗ v 3 ⊕ (v 0 ⊗ v 2 ⊕ number (pos 1)) ⊗ v 4) tt

moved_number_back : (k i j : ℕ) (a b : ℤ) → (pos k *ℤ ((pos i *ℤ a) +ℤ (pos j *ℤ b))) +ℤ a ≡ (pos (k * i + 1) *ℤ a) +ℤ (pos (k * j) *ℤ b)
moved_number_back k i j a b =
    let v = variable in
    solved (pos k ∷ pos i ∷ pos j ∷ a ∷ b ∷ []) (v 0 ⊗ (v 1 ⊗ v 3 ⊕ v 2 ⊗ v 4) ⊕ v 3) ((v 0 ⊗ v 1 ⊕ number (pos 1)) ⊗ v 3 ⊕ (v 0 ⊗ v 2) ⊗ v 4) tt

module _ (a b : Point) (k i j : ℕ) where
  pub moved_on : moved (pos k) (point_on a b i j) b ≡ point_on a b (k * i) (k * j + 1)
  moved_on = same_point (moved (pos k) (point_on a b i j) b) (point_on a b (k * i) (k * j + 1))
      (moved_number k i j a.x b.x) (moved_number k i j a.y b.y) (moved_number k i j a.z b.z) (moved_number k i j a.w b.w)

  pub moved_back : moved (pos k) (point_on a b i j) a ≡ point_on a b (k * i + 1) (k * j)
  moved_back = same_point (moved (pos k) (point_on a b i j) a) (point_on a b (k * i + 1) (k * j))
      (moved_number_back k i j a.x b.x) (moved_number_back k i j a.y b.y) (moved_number_back k i j a.z b.z) (moved_number_back k i j a.w b.w)

-- it comes before a later place, and after the point
further_before : (i j k over under : ℕ) → under < k → j * under < over * (i + j) → (k * j + 1) * under < over * (k * i + (k * j + 1))
further_before i j k over under large less =
    let m : k * (j * under + 1) ≤ k * (over * (i + j)) = mul-le-mul (omega arith) (omega (arith, less)) in
    omega (arith, m, large)

further_after : (i j k : ℕ) → 0 < i → j * (k * i + (k * j + 1)) < (k * j + 1) * (i + j)
further_after i j k some = omega (arith, some)

-- and before the end there are points a little back
back_after : (i j k over under : ℕ) → over < k → over * (i + j) < j * under → over * ((k * i + 1) + k * j) < (k * j) * under
back_after i j k over under large less =
    let m : k * (over * (i + j) + 1) ≤ k * (j * under) = mul-le-mul (omega arith) (omega (arith, less)) in
    omega (arith, m, large)

back_before : (i j k : ℕ) → 0 < j → (k * j) * (i + j) < j * ((k * i + 1) + k * j)
back_before i j k some = omega (arith, some)

pub further_is_before : (i j k : ℕ) (to : PlaceOnSegment) → to.1 < k → IsEarlierPlace (place_by_parts i j) to → IsEarlierPlace (place_by_parts (k * i) (k * j + 1)) to
further_is_before i j k to large less = further_before i j k to.0 to.1 large less

pub further_is_after : (i j k : ℕ) → 0 < i → IsEarlierPlace (place_by_parts i j) (place_by_parts (k * i) (k * j + 1))
further_is_after i j k some = further_after i j k some

pub back_is_after : (i j k : ℕ) (from : PlaceOnSegment) → from.0 < k → IsEarlierPlace from (place_by_parts i j) → IsEarlierPlace from (place_by_parts (k * i + 1) (k * j))
back_is_after i j k from large less = back_after i j k from.0 from.1 large less

pub back_is_before : (i j k : ℕ) → 0 < j → IsEarlierPlace (place_by_parts (k * i + 1) (k * j)) (place_by_parts i j)
back_is_before i j k some = back_before i j k some
