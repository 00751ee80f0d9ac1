-- The whole numbers near a fraction, by the one below it and what that leaves.
use Rattle.std.proofs.Common.{◌≡◌, true, false, ◌≤◌, ◌<◌, ◌*◌, ◌^◌, ◌∙◌, ℤ, pos, ◌+ℤ◌, ◌-ℤ◌, ◌*ℤ◌, ◌<ℤ◌, ◌≤ℤ◌, ◌⊎◌, ⊎_elim, [], ◌∷◌, FitsSigned, w32, w64, arith, lit≤, refl, ap, sym, subst, unsigned_abs}
use mir.Syntax.{w128}
use Rattle.std.proofs.lemmas.Int.{ints}
use Rattle.qm_numbers.specs.Rounding.{IsRoundedDown, IsRoundedUp, IsNearest}
use Rattle.qm_numbers.proofs.IntegerProducts.{linear, +ℤ-*ℤ, -ℤ-*ℤ, one_*ℤ}
use Rattle.qm_numbers.proofs.Bits.{kept_32, kept_64, kept_128, narrowed_32}
use Rattle.qm_numbers.proofs.Roundings.{down_small, up_small, nearest_small}
use Rattle.qm_space.specs.Point.{Point}
use Rattle.qm_space.specs.Cube.{IsInClosedCube}
use Rattle.qm_space.specs.Meet.{HasMeetSizes}
use Rattle.qm_space.specs.Coordinates.{HasSmallCoordinates}
use Rattle.qm_numbers.proofs.Kept.{kept}
use Rattle.qm_geom.specs.inner.SmallCoordinate.{IsSmallCoordinate}
use Rattle.qm_geom.specs.declared.vector.Vector.{Vector}
use Rattle.qm_narrow.specs.declared.near.Near.{Near}
use Rattle.qm_narrow.specs.inner.Near.{AreNear}
use Rattle.qm_narrow.specs.inner.Trace.{IsSpotOf, IsFineOf}
use Rattle.qm_narrow.proofs.Coordinates.{spot_is}

-- ---- distances from a multiple m of the denominator u

on_it : (o m u : ℤ) → pos 0 <ℤ u → m ≤ℤ o → o ≤ℤ m → 2 * unsigned_abs (o -ℤ m) ≤ unsigned_abs u
on_it o m u h k l = omega (arith, ints)

not_half : (o m u : ℤ) → pos 0 <ℤ u → m ≤ℤ o → o ≤ℤ m → 2 * unsigned_abs (o -ℤ m) ≡ unsigned_abs u → ⊥
not_half o m u h k l e = omega (arith, ints)

near_above : (o m u : ℤ) → m ≤ℤ o → ((o -ℤ m) +ℤ (o -ℤ m)) ≤ℤ u → 2 * unsigned_abs (o -ℤ m) ≤ unsigned_abs u
near_above o m u h k = omega (arith, ints)

less_above : (o m u : ℤ) → m ≤ℤ o → ((o -ℤ m) +ℤ (o -ℤ m)) <ℤ u → 2 * unsigned_abs (o -ℤ m) ≡ unsigned_abs u → ⊥
less_above o m u h k e = omega (arith, ints)

farther_below : (o m : ℤ) → m <ℤ o → o <ℤ pos 0 → unsigned_abs o < unsigned_abs m
farther_below o m h k = omega (arith, ints)

near_below : (o m u : ℤ) → o ≤ℤ m → ((m -ℤ o) +ℤ (m -ℤ o)) ≤ℤ u → 2 * unsigned_abs (o -ℤ m) ≤ unsigned_abs u
near_below o m u h k = omega (arith, ints)

less_below : (o m u : ℤ) → o ≤ℤ m → ((m -ℤ o) +ℤ (m -ℤ o)) <ℤ u → 2 * unsigned_abs (o -ℤ m) ≡ unsigned_abs u → ⊥
less_below o m u h k e = omega (arith, ints)

farther_above : (o m : ℤ) → o <ℤ m → pos 0 ≤ℤ o → unsigned_abs o < unsigned_abs m
farther_above o m h k = omega (arith, ints)

-- ---- by the number d below, and the rest r

module _ (o u d r : ℤ) (positive : pos 0 <ℤ u) (down : IsRoundedDown o u d) (rest : r ≡ o -ℤ (d *ℤ u)) where
  next : ((d +ℤ pos 1) *ℤ u) ≡ (d *ℤ u) +ℤ u
  next = let e = +ℤ-*ℤ d (pos 1) u in let f = one_*ℤ u in omega (arith, linear)

  pub rest_small : (pos 0 ≤ℤ r) × (r <ℤ u)
  rest_small = let a = down.at_most in let b = down.next in let e = next in (omega (arith, linear), omega (arith, linear))

  up_itself : r ≤ℤ pos 0 → IsRoundedUp o u d
  up_itself none = let e = -ℤ-*ℤ d (pos 1) u in let f = one_*ℤ u in let a = down.at_most in record { at_least = omega (arith, linear); previous = omega (arith, linear) }

  nearest_itself : r ≤ℤ pos 0 → IsNearest o u d
  nearest_itself none = let a = down.at_most in record { near = on_it o (d *ℤ u) u positive a (omega (arith, linear)); away = λ e. absurd (not_half o (d *ℤ u) u positive a (omega (arith, linear)) e) }

  up_next : pos 0 <ℤ r → IsRoundedUp o u (d +ℤ pos 1)
  up_next some =
      let e = next in let b = down.next in let g = -ℤ-*ℤ (d +ℤ pos 1) (pos 1) u in let f = one_*ℤ u in
      record { at_least = omega (arith, linear); previous = omega (arith, linear) }

  nearest_below : pos 0 <ℤ r → (r <ℤ (u -ℤ r)) ⊎ ((r ≡ u -ℤ r) × o <ℤ pos 0) → IsNearest o u d
  nearest_below some either = ⊎_elim
      (λ less. record { near = near_above o (d *ℤ u) u (omega (arith, linear)) (omega (arith, linear)); away = λ e. absurd (less_above o (d *ℤ u) u (omega (arith, linear)) (omega (arith, linear)) e) })
      (λ half. let same = half.0 in record { near = near_above o (d *ℤ u) u (omega (arith, linear)) (omega (arith, linear)); away = λ e. farther_below o (d *ℤ u) (omega (arith, linear)) half.1 })
      either

  nearest_next : ((u -ℤ r) <ℤ r) ⊎ ((r ≡ u -ℤ r) × pos 0 ≤ℤ o) → IsNearest o u (d +ℤ pos 1)
  nearest_next either =
      let f = next in let b = down.next in ⊎_elim
      (λ less. record { near = near_below o ((d +ℤ pos 1) *ℤ u) u (omega (arith, linear)) (omega (arith, linear)); away = λ e. absurd (less_below o ((d +ℤ pos 1) *ℤ u) u (omega (arith, linear)) (omega (arith, linear)) e) })
      (λ half. let same = half.0 in record { near = near_below o ((d +ℤ pos 1) *ℤ u) u (omega (arith, linear)) (omega (arith, linear)); away = λ e. farther_above o ((d +ℤ pos 1) *ℤ u) (omega (arith, linear)) half.1 })
      either

-- ---- as the code keeps the numbers

pub above_fits : (d : ℤ) → unsigned_abs d ≤ 65536 → FitsSigned w32 (kept w32 (kept w64 d) +ℤ pos 1)
above_fits d h = omega (arith, ints)

above_kept : (d : ℤ) → unsigned_abs d ≤ 65536 → kept w32 (kept w32 (kept w64 d) +ℤ pos 1) ≡ d +ℤ pos 1
above_kept d h = omega (arith, ints)

size_of : (r u : ℤ) → (pos 0 ≤ℤ r) × (r <ℤ u) → unsigned_abs u ≤ 3 * 2 ^ 79 → unsigned_abs r ≤ 3 * 2 ^ 79
size_of r u (low, high) h = omega (arith, ints)

module _ (o u : ℤ) (small : IsSmallCoordinate o u) where
  over_kept : kept w128 o ≡ o
  over_kept = kept_128 o (3 * 2 ^ 97) small.over_size (lit≤ tt)

  under_kept : kept w128 u ≡ u
  under_kept = kept_128 u (3 * 2 ^ 79) small.under_size (lit≤ tt)

  pub under_positive : pos 0 <ℤ kept w128 u
  under_positive = subst (λ (z : ℤ). pos 0 <ℤ z) (sym under_kept) small.positive

  fraction : unsigned_abs o ≤ 2 ^ 44 * unsigned_abs u
  fraction = let h = small.small in omega arith

  pub fraction_small : unsigned_abs (kept w128 o) ≤ 2 ^ 44 * unsigned_abs (kept w128 u)
  fraction_small = rw (over_kept, under_kept) fraction

  pub over_size : unsigned_abs (kept w128 o) ≤ 3 * 2 ^ 97
  over_size = subst (λ (z : ℤ). unsigned_abs z ≤ 3 * 2 ^ 97) (sym over_kept) small.over_size

  pub under_size : unsigned_abs (kept w128 u) ≤ 3 * 2 ^ 79
  under_size = subst (λ (z : ℤ). unsigned_abs z ≤ 3 * 2 ^ 79) (sym under_kept) small.under_size

module _ (o u d : ℤ) (small : IsSmallCoordinate o u) (down : IsRoundedDown (kept w128 o) (kept w128 u) d) where
  o_kept : kept w128 o ≡ o
  o_kept = kept_128 o (3 * 2 ^ 97) small.over_size (lit≤ tt)

  u_kept : kept w128 u ≡ u
  u_kept = kept_128 u (3 * 2 ^ 79) small.under_size (lit≤ tt)

  is_down : IsRoundedDown o u d
  is_down = subst (λ (z : ℤ). IsRoundedDown z u d) o_kept (subst (λ (z : ℤ). IsRoundedDown (kept w128 o) z d) u_kept down)

  pub d_small : unsigned_abs d ≤ 65536
  d_small = down_small o u d 65536 small.positive small.small is_down

module _ (o u d r : ℤ) (small : IsSmallCoordinate o u) (down : IsRoundedDown (kept w128 o) (kept w128 u) d) (rest : r ≡ kept w128 o -ℤ (kept w64 d *ℤ kept w128 u)) where
  d_kept : kept w64 d ≡ d
  d_kept = kept_64 d 65536 (d_small o u d small down) (lit≤ tt)

  is_rest : r ≡ o -ℤ (d *ℤ u)
  is_rest = rest ∙ (λ i. o_kept o u d small down i -ℤ (d_kept i *ℤ u_kept o u d small down i))

  r_small : unsigned_abs r ≤ 3 * 2 ^ 79
  r_small = size_of r u (rest_small o u d r small.positive (is_down o u d small down) is_rest) small.under_size

  r_kept : kept w128 r ≡ r
  r_kept = kept_128 r (3 * 2 ^ 79) r_small (lit≤ tt)

  pub rest_size : unsigned_abs (kept w128 r) ≤ 3 * 2 ^ 79
  rest_size = subst (λ (z : ℤ). unsigned_abs z ≤ 3 * 2 ^ 79) (sym r_kept) r_small

  pub near_whole : r ≤ℤ pos 0 → AreNear o u (record { below = kept w32 (kept w64 d); above = kept w32 (kept w64 d); nearest = kept w32 (kept w64 d) })
  near_whole none = rw (narrowed_32 d (d_small o u d small down)) (record { below = (is_down o u d small down); above = up_itself o u d r small.positive (is_down o u d small down) is_rest none; nearest = nearest_itself o u d r small.positive (is_down o u d small down) is_rest none })

  pub near_up : pos 0 <ℤ r → ((kept w128 u -ℤ kept w128 r) <ℤ kept w128 r) ⊎ ((kept w128 r ≡ kept w128 u -ℤ kept w128 r) × pos 0 ≤ℤ kept w128 o) → AreNear o u (record { below = kept w32 (kept w64 d); above = kept w32 (kept w32 (kept w64 d) +ℤ pos 1); nearest = kept w32 (kept w32 (kept w64 d) +ℤ pos 1) })
  near_up some either = rw (above_kept d (d_small o u d small down), narrowed_32 d (d_small o u d small down)) (record { below = (is_down o u d small down); above = up_next o u d r small.positive (is_down o u d small down) is_rest some; nearest = nearest_next o u d r small.positive (is_down o u d small down) is_rest (rw (u_kept o u d small down, r_kept, o_kept o u d small down) at either) })

  pub near_down : pos 0 <ℤ r → (kept w128 r <ℤ (kept w128 u -ℤ kept w128 r)) ⊎ ((kept w128 r ≡ kept w128 u -ℤ kept w128 r) × kept w128 o <ℤ pos 0) → AreNear o u (record { below = kept w32 (kept w64 d); above = kept w32 (kept w32 (kept w64 d) +ℤ pos 1); nearest = kept w32 (kept w64 d) })
  near_down some either = rw (above_kept d (d_small o u d small down), narrowed_32 d (d_small o u d small down)) (record { below = (is_down o u d small down); above = up_next o u d r small.positive (is_down o u d small down) is_rest some; nearest = nearest_below o u d r small.positive (is_down o u d small down) is_rest some (rw (u_kept o u d small down, r_kept, o_kept o u d small down) at either) })

-- ---- of the three coordinates of a corner

pub coordinate_answered : (n w over under : ℤ) → IsSmallCoordinate n w → over ≡ n → under ≡ w → IsSmallCoordinate (kept w128 over) (kept w128 under)
coordinate_answered n w over under small e f =
    subst (λ (z : ℤ). IsSmallCoordinate z (kept w128 under)) (sym (ap (λ (z : ℤ). kept w128 z) e ∙ over_kept n w small))
    (subst (λ (z : ℤ). IsSmallCoordinate n z) (sym (ap (λ (z : ℤ). kept w128 z) f ∙ under_kept n w small)) small)

module _ (n w over under : ℤ) (small : IsSmallCoordinate n w) (near : Near) (e : over ≡ n) (f : under ≡ w) (are : AreNear (kept w128 over) (kept w128 under) near) where
  over_is : kept w128 over ≡ n
  over_is = ap (λ (z : ℤ). kept w128 z) e ∙ kept_128 n (3 * 2 ^ 97) small.over_size (lit≤ tt)

  under_is : kept w128 under ≡ w
  under_is = ap (λ (z : ℤ). kept w128 z) f ∙ kept_128 w (3 * 2 ^ 79) small.under_size (lit≤ tt)

  are_near : AreNear n w near
  are_near = subst (λ (z : ℤ). AreNear z w near) over_is (subst (λ (z : ℤ). AreNear (kept w128 over) z near) under_is are)

  below_is : IsRoundedDown n w (kept w32 near.below)
  below_is = subst (IsRoundedDown n w) (sym (kept_32 near.below 65536 (down_small n w near.below 65536 small.positive small.small are_near.below) (lit≤ tt))) are_near.below

  above_is : IsRoundedUp n w (kept w32 near.above)
  above_is = subst (IsRoundedUp n w) (sym (kept_32 near.above 65536 (up_small n w near.above 65536 small.positive small.small are_near.above) (lit≤ tt))) are_near.above

  nearest_is : IsNearest n w (kept w32 near.nearest)
  nearest_is = subst (IsNearest n w) (sym (kept_32 near.nearest 65536 (nearest_small n w near.nearest 65536 small.positive small.small are_near.nearest) (lit≤ tt))) are_near.nearest

module _ (corner : Point) (inside : IsInClosedCube corner) (small : HasSmallCoordinates corner) (sizes : HasMeetSizes corner) (near_x near_y near_z : Near) (x y z w : ℤ) (x_is : x ≡ corner.x) (y_is : y ≡ corner.y) (z_is : z ≡ corner.z) (w_is : w ≡ corner.w) (x_near : AreNear (kept w128 x) (kept w128 w) near_x) (y_near : AreNear (kept w128 y) (kept w128 w) near_y) (z_near : AreNear (kept w128 z) (kept w128 w) near_z) where
  x_small : IsSmallCoordinate corner.x corner.w
  x_small = record { positive = inside.weight; small = small.x_small; over_size = sizes.x_small; under_size = sizes.w_small }

  y_small : IsSmallCoordinate corner.y corner.w
  y_small = record { positive = inside.weight; small = small.y_small; over_size = sizes.y_small; under_size = sizes.w_small }

  z_small : IsSmallCoordinate corner.z corner.w
  z_small = record { positive = inside.weight; small = small.z_small; over_size = sizes.z_small; under_size = sizes.w_small }

  pub spot_by : (fine : Vector) → IsFineOf corner fine → IsSpotOf corner (record {
    nearest = kept w32 near_x.nearest ∷ kept w32 near_y.nearest ∷ kept w32 near_z.nearest ∷ [];
    below = kept w32 near_x.below ∷ kept w32 near_y.below ∷ kept w32 near_z.below ∷ [];
    above = kept w32 near_x.above ∷ kept w32 near_y.above ∷ kept w32 near_z.above ∷ [];
    loose = true;
    fine = fine;
  })
  spot_by fine fine_is = spot_is corner _ inside
      (record { of_x = nearest_is corner.x corner.w x w x_small near_x x_is w_is x_near; of_y = nearest_is corner.y corner.w y w y_small near_y y_is w_is y_near; of_z = nearest_is corner.z corner.w z w z_small near_z z_is w_is z_near })
      (record { of_x = below_is corner.x corner.w x w x_small near_x x_is w_is x_near; of_y = below_is corner.y corner.w y w y_small near_y y_is w_is y_near; of_z = below_is corner.z corner.w z w z_small near_z z_is w_is z_near })
      (record { of_x = above_is corner.x corner.w x w x_small near_x x_is w_is x_near; of_y = above_is corner.y corner.w y w y_small near_y y_is w_is y_near; of_z = above_is corner.z corner.w z w z_small near_z z_is w_is z_near })
      refl refl refl (λ e. let never : true ≡ false = e in cc) fine_is
