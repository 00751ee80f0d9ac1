-- Worked rows: of the tree of one cube which leaves touch one another, and which touch the outside.
use Rattle.std.proofs.Common.{◌≡◌, ℕ, zero, suc, ◌<◌, ◌&&◌, ℤ, pos, negsuc, neg_ℤ, ◌+ℤ◌, ◌-ℤ◌, ◌*ℤ◌, ◌<ℤ◌, Bool, true, false, List, [], ◌∷◌, All, get_or, length, slice_get, Some, refl, sym, subst, arith}
use Rattle.std.proofs.lemmas.Int.{ints}
use Rattle.std.proofs.lemmas.List.Elements.{All-from_recursion, All-nil, All-cons, All-contains, All-weaker}
use Rattle.qm_space.specs.Bounds.{extent}
use Rattle.qm_space.specs.Point.{Point, IsInCube}
use Rattle.qm_space.specs.Plane.{Plane, plane_of, value, IsOn, IsInFront}
use Rattle.qm_space.specs.Cell.{IsInCell}
use Rattle.qm_space.specs.Book.{plane_at}
use Rattle.qm_space.specs.Cube.{cube_walls, wall_x, wall_y, wall_z, mirrored}
use Rattle.qm_numbers.proofs.IntegerProducts.{linear, one_*ℤ, zero_*ℤ, +ℤ-*ℤ}
use Rattle.qm_numbers.proofs.Signs.{product_positive}
use Rattle.qm_space.proofs.Planes.{value_flipped}
use Rattle.qm_space.proofs.Cubes.{cube_is_cell, x_low, x_high, y_low, y_high, z_low, z_high}
use Rattle.qm_partition.specs.Ways.{cell_of_way, Way, ways}
use Rattle.qm_partition.proofs.Samples.{cube_tree, way_in}
use Rattle.qm_contacts.specs.Meeting.{Meeting, meeting_at, meetings}
use Rattle.qm_contacts.specs.Contact.{IsContact, TouchAcross}
use Rattle.qm_contacts.specs.Touching.{AreApart}
use Rattle.qm_contacts.specs.Outside.{TouchesOutside}
use Rattle.qm_lists.proofs.Cases.{both_yes}

abbrev at : ℤ → ℤ → ℤ → Point
at x y z = record { x = x; y = y; z = z; w = pos 1 }

-- ---- sides that compute

abbrev is_above : ℤ → Bool
is_above (pos zero) = false
is_above (pos (suc n)) = true
is_above (negsuc n) = false

above_from : (v : ℤ) → is_above v ≡ true → pos 0 <ℤ v
above_from (pos zero) test = absurd cc
above_from (pos (suc n)) test = omega (arith, ints)
above_from (negsuc n) test = absurd cc

abbrev is_zero : ℤ → Bool
is_zero (pos zero) = true
is_zero (pos (suc n)) = false
is_zero (negsuc n) = false

zero_from : (v : ℤ) → is_zero v ≡ true → v ≡ pos 0
zero_from (pos zero) test = refl
zero_from (pos (suc n)) test = absurd cc
zero_from (negsuc n) test = absurd cc

abbrev is_in_cell : List Plane → Point → Bool
is_in_cell [] x = true
is_in_cell (h ∷ cell) x = is_above (value h x) && is_in_cell cell x

in_cell_from : (cell : List Plane) (x : Point) → is_in_cell cell x ≡ true → IsInCell cell x
in_cell_from [] x test = All-nil (λ h. IsInFront h x)
in_cell_from (h ∷ cell) x test =
    let both = both_yes (is_above (value h x)) (is_in_cell cell x) test in
    All-cons (λ g. IsInFront g x) h cell (above_from (value h x) both.0) (in_cell_from cell x both.1)

-- whether a point is a contact of a meeting of the tree
abbrev is_contact : Meeting → Point → Bool
is_contact m x =
    is_in_cell cube_walls x && (is_zero (value (plane_at cube_tree.planes m.plane) x) && (is_in_cell (cell_of_way cube_tree.planes m.above) x
    && (is_in_cell (cell_of_way cube_tree.planes m.front.way) x && is_in_cell (cell_of_way cube_tree.planes m.back.way) x)))

contact_from : (m : Meeting) (x : Point) → is_contact m x ≡ true → IsContact cube_tree.planes m x
contact_from m x test =
    let on_test = is_zero (value (plane_at cube_tree.planes m.plane) x) in
    let above_test = is_in_cell (cell_of_way cube_tree.planes m.above) x in
    let front_test = is_in_cell (cell_of_way cube_tree.planes m.front.way) x in
    let back_test = is_in_cell (cell_of_way cube_tree.planes m.back.way) x in
    let first = both_yes (is_in_cell cube_walls x) (on_test && (above_test && (front_test && back_test))) test in
    let second = both_yes on_test (above_test && (front_test && back_test)) first.1 in
    let third = both_yes above_test (front_test && back_test) second.1 in
    let fourth = both_yes front_test back_test third.1 in
    record {
      in_cube = (cube_is_cell x).1 (in_cell_from cube_walls x first.0);
      on = zero_from (value (plane_at cube_tree.planes m.plane) x) second.0;
      above = in_cell_from (cell_of_way cube_tree.planes m.above) x third.0;
      in_front = in_cell_from (cell_of_way cube_tree.planes m.front.way) x fourth.0;
      behind = in_cell_from (cell_of_way cube_tree.planes m.back.way) x fourth.1;
    }

-- ---- the 21 meetings of the seven leaves

abbrev some_meeting : Meeting
some_meeting = meeting_at 0 0 [] (record { leaf = 0; way = [] }) (record { leaf = 0; way = [] })

abbrev nth : ℕ → Meeting
nth k = get_or (meetings cube_tree) k some_meeting

count_row : length (meetings cube_tree) ≡ 21
count_row = refl

touch_at : (k : ℕ) (x : Point) → k < 21 → get_or (meetings cube_tree) k (nth k) ≡ nth k → is_contact (nth k) x ≡ true → TouchAcross cube_tree (nth k).front.leaf (nth k).back.leaf
touch_at k x within is test = record { meeting = nth k; listed = (k, within, is); front = refl; back = refl; point = x; contact = contact_from (nth k) x test }

-- beyond x = 0 is leaf 6, beyond x = 64 leaf 0, beyond y = 0 leaf 5, beyond y = 64 leaf 1, below leaf 4, above leaf 2; each
-- touches the stone, which is leaf 3
stone_rows : TouchAcross cube_tree 3 6 × TouchAcross cube_tree 0 3 × TouchAcross cube_tree 3 5 × TouchAcross cube_tree 1 3 × TouchAcross cube_tree 3 4 × TouchAcross cube_tree 2 3
unfolding value
stone_rows = (
  touch_at 3 (at (pos 0) (pos 32) (pos 32)) (omega arith) refl refl,
  touch_at 8 (at (pos 64) (pos 32) (pos 32)) (omega arith) refl refl,
  touch_at 13 (at (pos 32) (pos 0) (pos 32)) (omega arith) refl refl,
  touch_at 16 (at (pos 32) (pos 64) (pos 32)) (omega arith) refl refl,
  touch_at 19 (at (pos 32) (pos 32) (pos 0)) (omega arith) refl refl,
  touch_at 20 (at (pos 32) (pos 32) (pos 64)) (omega arith) refl refl,
)

-- and the others touch in twelve pairs: all but the three that face one another across the stone
empty_rows : (TouchAcross cube_tree 1 6 × TouchAcross cube_tree 2 6 × TouchAcross cube_tree 4 6 × TouchAcross cube_tree 5 6) × (TouchAcross cube_tree 0 1 × TouchAcross cube_tree 0 2 × TouchAcross cube_tree 0 4 × TouchAcross cube_tree 0 5) × (TouchAcross cube_tree 2 5 × TouchAcross cube_tree 4 5 × TouchAcross cube_tree 1 2 × TouchAcross cube_tree 1 4)
unfolding value
empty_rows = (
  (
    touch_at 1 (at (pos 0) (pos 100) (pos 0)) (omega arith) refl refl,
    touch_at 2 (at (pos 0) (pos 32) (pos 100)) (omega arith) refl refl,
    touch_at 4 (at (pos 0) (pos 32) (neg_ℤ (pos 100))) (omega arith) refl refl,
    touch_at 5 (at (pos 0) (neg_ℤ (pos 100)) (pos 0)) (omega arith) refl refl,
  ),
  (
    touch_at 6 (at (pos 64) (pos 100) (pos 0)) (omega arith) refl refl,
    touch_at 7 (at (pos 64) (pos 32) (pos 100)) (omega arith) refl refl,
    touch_at 9 (at (pos 64) (pos 32) (neg_ℤ (pos 100))) (omega arith) refl refl,
    touch_at 10 (at (pos 64) (neg_ℤ (pos 100)) (pos 0)) (omega arith) refl refl,
  ),
  (
    touch_at 12 (at (pos 32) (pos 0) (pos 100)) (omega arith) refl refl,
    touch_at 14 (at (pos 32) (pos 0) (neg_ℤ (pos 100))) (omega arith) refl refl,
    touch_at 15 (at (pos 32) (pos 64) (pos 100)) (omega arith) refl refl,
    touch_at 17 (at (pos 32) (pos 64) (neg_ℤ (pos 100))) (omega arith) refl refl,
  ),
)

-- ---- the values of its planes

module _ (p : Point) where
  value_x : (d : ℤ) → value (plane_of (pos 1) (pos 0) (pos 0) d) p ≡ p.x -ℤ (d *ℤ p.w)
  unfolding value
  value_x d = let a = one_*ℤ p.x in let b = zero_*ℤ p.y in let c = zero_*ℤ p.z in omega (arith, linear)

  value_y : (d : ℤ) → value (plane_of (pos 0) (pos 1) (pos 0) d) p ≡ p.y -ℤ (d *ℤ p.w)
  unfolding value
  value_y d = let a = zero_*ℤ p.x in let b = one_*ℤ p.y in let c = zero_*ℤ p.z in omega (arith, linear)

  value_z : (d : ℤ) → value (plane_of (pos 0) (pos 0) (pos 1) d) p ≡ p.z -ℤ (d *ℤ p.w)
  unfolding value
  value_z d = let a = zero_*ℤ p.x in let b = zero_*ℤ p.y in let c = one_*ℤ p.z in omega (arith, linear)

-- ---- leaves that are apart

apart_rows : AreApart cube_tree.planes (nth 0) × AreApart cube_tree.planes (nth 11) × AreApart cube_tree.planes (nth 18)
apart_rows = (
  (λ p c.
      let on = value_x p (pos 0) in
      let front = value_x p (pos 64) in
      let is_on = c.on in
      let is_front = c.in_front 0 (plane_at cube_tree.planes 0) (omega arith) in
      none p (value (plane_of (pos 1) (pos 0) (pos 0) (pos 64)) p) c.in_cube (omega (arith, linear, zero_*ℤ p.w)) is_front),
  (λ p c.
      let on = value_y p (pos 0) in
      let front = value_y p (pos 64) in
      let is_on = c.on in
      let is_front = c.in_front 0 (plane_at cube_tree.planes 0) (omega arith) in
      none p (value (plane_of (pos 0) (pos 1) (pos 0) (pos 64)) p) c.in_cube (omega (arith, linear, zero_*ℤ p.w)) is_front),
  (λ p c.
      let on = value_z p (pos 0) in
      let front = value_z p (pos 64) in
      let is_on = c.on in
      let is_front = c.in_front 0 (plane_at cube_tree.planes 0) (omega arith) in
      none p (value (plane_of (pos 0) (pos 0) (pos 1) (pos 64)) p) c.in_cube (omega (arith, linear, zero_*ℤ p.w)) is_front),
)
  where
    none : (p : Point) (v : ℤ) → IsInCube p → v ≡ neg_ℤ (pos 64 *ℤ p.w) → pos 0 <ℤ v → ⊥
    none p v in_cube is front = let w = in_cube.weight in let m = product_positive (pos 64) p.w (omega (arith, ints)) w in absurd (omega (arith, linear))

-- ---- the outside

-- in front of all planes but the one at a place
abbrev is_beside : ℕ → List Plane → Point → Bool
is_beside place [] x = true
is_beside zero (h ∷ rest) x = is_in_cell rest x
is_beside (suc place) (h ∷ rest) x = is_above (value h x) && is_beside place rest x

beside_from : (place : ℕ) (planes : List Plane) (wall : Plane) (x : Point) → get_or planes place wall ≡ wall → is_beside place planes x ≡ true → All (λ g. (g ≡ wall → ⊥) → IsInFront g x) planes
beside_from place [] wall x is test = All-nil (λ g. (g ≡ wall → ⊥) → IsInFront g x)
beside_from zero (h ∷ rest) wall x is test =
    All-cons (λ g. (g ≡ wall → ⊥) → IsInFront g x) h rest (λ other. absurd (other is)) (All-weaker (λ g. IsInFront g x) (λ g. (g ≡ wall → ⊥) → IsInFront g x) (λ g front other. front) rest (in_cell_from rest x test))
beside_from (suc place) (h ∷ rest) wall x is test =
    let both = both_yes (is_above (value h x)) (is_beside place rest x) test in
    All-cons (λ g. (g ≡ wall → ⊥) → IsInFront g x) h rest (λ other. above_from (value h x) both.0) (beside_from place rest wall x is both.1)

-- whether a point on a wall shows that the leaf at the end of a way touches the outside
abbrev is_outside : ℕ → Plane → Way → Point → Bool
is_outside place wall way x = is_zero (value wall x) && (is_beside place cube_walls x && is_in_cell (cell_of_way cube_tree.planes way) x)

beyond : (k place : ℕ) (way : Way) (wall : Plane) (x : Point) → slice_get (ways cube_tree.shape) k ≡ Some way → place < 6 → get_or cube_walls place wall ≡ wall → pos 0 <ℤ x.w → is_outside place wall way x ≡ true → TouchesOutside cube_tree k
beyond k place way wall x way_is within is weight test =
    let first = both_yes (is_zero (value wall x)) (is_beside place cube_walls x && is_in_cell (cell_of_way cube_tree.planes way) x) test in
    let second = both_yes (is_beside place cube_walls x) (is_in_cell (cell_of_way cube_tree.planes way) x) first.1 in
    record {
      way = way;
      way_is = way_is;
      wall = wall;
      is_wall = (place, within, is);
      point = x;
      on_face = record { weight = weight; on = zero_from (value wall x) first.0; inside = beside_from place cube_walls wall x is second.0 };
      in_cell = in_cell_from (cell_of_way cube_tree.planes way) x second.1;
    }

-- six leaves reach to a face of the cube of the world
outside_rows : TouchesOutside cube_tree 0 × TouchesOutside cube_tree 1 × TouchesOutside cube_tree 2 × TouchesOutside cube_tree 4 × TouchesOutside cube_tree 5 × TouchesOutside cube_tree 6
unfolding value
outside_rows = (
  beyond 0 3 _ (mirrored wall_x) (at extent (pos 0) (pos 0)) refl (omega arith) refl (omega (arith, ints)) refl,
  beyond 1 4 _ (mirrored wall_y) (at (pos 32) extent (pos 0)) refl (omega arith) refl (omega (arith, ints)) refl,
  beyond 2 5 _ (mirrored wall_z) (at (pos 32) (pos 32) extent) refl (omega arith) refl (omega (arith, ints)) refl,
  beyond 4 2 _ wall_z (at (pos 32) (pos 32) (neg_ℤ extent)) refl (omega arith) refl (omega (arith, ints)) refl,
  beyond 5 1 _ wall_y (at (pos 32) (neg_ℤ extent) (pos 0)) refl (omega arith) refl (omega (arith, ints)) refl,
  beyond 6 0 _ wall_x (at (neg_ℤ extent) (pos 0) (pos 0)) refl (omega arith) refl (omega (arith, ints)) refl,
)

-- the stone does not: its points lie between the planes x = 0 and x = 64, and so on
stone_row : TouchesOutside cube_tree 3 → ⊥
stone_row outside = All-contains (λ wall. IsOn wall p → ⊥) cube_walls outside.wall (All-from_recursion (λ wall. IsOn wall p → ⊥) cube_walls (
  (λ on. let e = x_low p in let a = low_x in absurd (omega (arith, linear))),
  (
    (λ on. let e = y_low p in let a = low_y in absurd (omega (arith, linear))),
    (
      (λ on. let e = z_low p in let a = low_z in absurd (omega (arith, linear))),
      ((λ on. let e = x_high p in let a = high_x in absurd (omega (arith, linear))), ((λ on. let e = y_high p in let a = high_y in absurd (omega (arith, linear))), ((λ on. let e = z_high p in let a = high_z in absurd (omega (arith, linear))), tt))),
    ),
  ),
))
    outside.is_wall outside.on_face.on
  where
    p : Point
    p = outside.point

    same : outside.way ≡ way_in
    same = let e : Some outside.way ≡ Some way_in = sym outside.way_is in cc

    inside : IsInCell (cell_of_way cube_tree.planes way_in) outside.point
    inside = subst (λ (way : Way). IsInCell (cell_of_way cube_tree.planes way) outside.point) same outside.in_cell

    wide : pos 0 <ℤ (extent *ℤ outside.point.w)
    wide = product_positive extent outside.point.w (omega (arith, ints)) outside.on_face.weight

    less : (extent *ℤ outside.point.w) ≡ (pos 64 *ℤ outside.point.w) +ℤ ((extent -ℤ pos 64) *ℤ outside.point.w)
    less = +ℤ-*ℤ (pos 64) (extent -ℤ pos 64) outside.point.w

    more : pos 0 <ℤ ((extent -ℤ pos 64) *ℤ outside.point.w)
    more = product_positive (extent -ℤ pos 64) outside.point.w (omega (arith, ints)) outside.on_face.weight

    no_wide : pos 0 *ℤ outside.point.w ≡ pos 0
    no_wide = zero_*ℤ outside.point.w

    low_x : pos 0 <ℤ (outside.point.x +ℤ (extent *ℤ outside.point.w))
    low_x = let f = inside 0 wall_x (omega arith) in let v = value_x outside.point (pos 0) in omega (arith, linear, wide, no_wide)

    low_y : pos 0 <ℤ (outside.point.y +ℤ (extent *ℤ outside.point.w))
    low_y = let f = inside 2 wall_x (omega arith) in let v = value_y outside.point (pos 0) in omega (arith, linear, wide, no_wide)

    low_z : pos 0 <ℤ (outside.point.z +ℤ (extent *ℤ outside.point.w))
    low_z = let f = inside 4 wall_x (omega arith) in let v = value_z outside.point (pos 0) in omega (arith, linear, wide, no_wide)

    high_x : pos 0 <ℤ (neg_ℤ outside.point.x +ℤ (extent *ℤ outside.point.w))
    high_x = let f = inside 1 wall_x (omega arith) in let v = value_x outside.point (pos 64) in let n = value_flipped (plane_of (pos 1) (pos 0) (pos 0) (pos 64)) outside.point in omega (arith, linear, less, more)

    high_y : pos 0 <ℤ (neg_ℤ outside.point.y +ℤ (extent *ℤ outside.point.w))
    high_y = let f = inside 3 wall_x (omega arith) in let v = value_y outside.point (pos 64) in let n = value_flipped (plane_of (pos 0) (pos 1) (pos 0) (pos 64)) outside.point in omega (arith, linear, less, more)

    high_z : pos 0 <ℤ (neg_ℤ outside.point.z +ℤ (extent *ℤ outside.point.w))
    high_z = let f = inside 5 wall_x (omega arith) in let v = value_z outside.point (pos 64) in let n = value_flipped (plane_of (pos 0) (pos 0) (pos 1) (pos 64)) outside.point in omega (arith, linear, less, more)
