-- Coordinates in fine units.
use Rattle.std.proofs.Common.{◌≡◌, ◌≤◌, ◌*◌, ◌^◌, ◌∙◌, ℕ, ℤ, pos, ◌*ℤ◌, w64, arith, lit≤, ap, sym, subst, unsigned_abs}
use mir.Syntax.{w128}
use Rattle.std.proofs.lemmas.Int.{ints}
use Rattle.qm_numbers.specs.Rounding.{IsRoundedDown}
use Rattle.qm_numbers.proofs.Bits.{kept_64, kept_128}
use Rattle.qm_numbers.proofs.Kept.{kept, small_kept}
use Rattle.qm_space.specs.Bounds.{normal_bound}
use Rattle.qm_space.specs.Point.{Point}
use Rattle.qm_space.specs.Cube.{IsInClosedCube}
use Rattle.qm_space.specs.Meet.{HasMeetSizes}
use Rattle.qm_space.specs.Coordinates.{HasSmallCoordinates}
use Rattle.qm_geom.specs.inner.SmallCoordinate.{IsSmallCoordinate}
use Rattle.qm_narrow.specs.inner.Trace.{fine_units, IsFineOf}

pub over_kept : (o : ℤ) → unsigned_abs o ≤ 3 * 2 ^ 97 → kept w128 (pos 1024 *ℤ kept w128 o) ≡ pos 1024 *ℤ o
over_kept o h = rw (kept_128 o _ h (lit≤ tt)) (direct o h)
  where
    direct : (o : ℤ) → unsigned_abs o ≤ 3 * 2 ^ 97 → kept w128 (pos 1024 *ℤ o) ≡ pos 1024 *ℤ o
    direct o h = omega (arith, ints)

pub fine_small : (o : ℤ) (m : ℕ) → unsigned_abs o ≤ 65536 * m → unsigned_abs (pos 1024 *ℤ o) ≤ normal_bound * m
fine_small o m h = omega (arith, ints)

-- as the code keeps the numbers
kept_fine : (n w over under f : ℤ) → IsSmallCoordinate n w → over ≡ n → under ≡ w → IsRoundedDown (fine_units *ℤ kept w128 over) (kept w128 under) f → unsigned_abs f ≤ normal_bound → IsRoundedDown (fine_units *ℤ n) w (kept w64 f)
kept_fine n w over under f small e g down h =
    subst (IsRoundedDown (fine_units *ℤ n) w) (sym (kept_64 f normal_bound h (lit≤ tt)))
    (subst (λ (z : ℤ). IsRoundedDown (fine_units *ℤ z) w f) (ap (λ (z : ℤ). kept w128 z) e ∙ kept_128 n (3 * 2 ^ 97) small.over_size (lit≤ tt))
    (subst (λ (z : ℤ). IsRoundedDown (fine_units *ℤ kept w128 over) z f) (ap (λ (z : ℤ). kept w128 z) g ∙ kept_128 w (3 * 2 ^ 79) small.under_size (lit≤ tt)) down))

module _ (corner : Point) (inside : IsInClosedCube corner) (small : HasSmallCoordinates corner) (sizes : HasMeetSizes corner) (x y z w : ℤ) (x_is : x ≡ corner.x) (y_is : y ≡ corner.y) (z_is : z ≡ corner.z) (w_is : w ≡ corner.w) where
  pub small_x : IsSmallCoordinate corner.x corner.w
  small_x = record { positive = inside.weight; small = small.x_small; over_size = sizes.x_small; under_size = sizes.w_small }

  pub small_y : IsSmallCoordinate corner.y corner.w
  small_y = record { positive = inside.weight; small = small.y_small; over_size = sizes.y_small; under_size = sizes.w_small }

  pub small_z : IsSmallCoordinate corner.z corner.w
  small_z = record { positive = inside.weight; small = small.z_small; over_size = sizes.z_small; under_size = sizes.w_small }

  pub fine_by : (f g h : ℤ) → unsigned_abs f ≤ normal_bound → unsigned_abs g ≤ normal_bound → unsigned_abs h ≤ normal_bound →
      IsRoundedDown (fine_units *ℤ kept w128 x) (kept w128 w) f → IsRoundedDown (fine_units *ℤ kept w128 y) (kept w128 w) g → IsRoundedDown (fine_units *ℤ kept w128 z) (kept w128 w) h →
      IsFineOf corner (record { x = kept w64 f; y = kept w64 g; z = kept w64 h })
  fine_by f g h f_small g_small h_small of_f of_g of_h = record {
    of_x = kept_fine corner.x corner.w x w f small_x x_is w_is of_f f_small;
    of_y = kept_fine corner.y corner.w y w g small_y y_is w_is of_g g_small;
    of_z = kept_fine corner.z corner.w z w h small_z z_is w_is of_h h_small;
    small = record { x_small = small_kept f normal_bound (lit≤ tt) f_small; y_small = small_kept g normal_bound (lit≤ tt) g_small; z_small = small_kept h normal_bound (lit≤ tt) h_small };
  }
