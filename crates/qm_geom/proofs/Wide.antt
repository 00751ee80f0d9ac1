-- What the code's numbers of 128 bits hold: the number itself, since it fits.
use Rattle.std.proofs.Common.{◌≡◌, ◌≤◌, ◌*◌, ◌^◌, ℕ, ℤ, pos, negsuc, neg_ℤ, ◌-ℤ◌, ◌*ℤ◌, ◌<ℤ◌, FitsSigned, to_z, of_z, w32, [], ◌∷◌, sym, subst, unsigned_abs, arith, lit≤}
use mir.Syntax.{w128}
use Rattle.std.proofs.lemmas.Int.{ints, to_z-of_z}
use Rattle.qm_space.specs.Point.{Point, point_times}
use Rattle.qm_space.specs.Meet.{HasMeetSizes}
use Rattle.qm_space.proofs.Planes.{same_point}
use Rattle.qm_geom.specs.Corners.{IsCorner}
use Rattle.qm_geom.specs.inner.SmallCoordinate.{IsSmallCoordinate}
use Rattle.qm_space.specs.Coordinates.{AreCoordinatesBy, HasSmallCoordinates}
use Rattle.qm_numbers.proofs.Bits.{kept_128}

-- what the code's `-z` gives
turned_128 : (z : ℤ) (n : ℕ) → unsigned_abs z ≤ n → n ≤ 2 ^ 126 → to_z w128 (of_z w128 (pos 0 -ℤ to_z w128 (of_z w128 z))) ≡ negsuc 0 *ℤ z
turned_128 z n h small = let e : negsuc 0 *ℤ z ≡ neg_ℤ z = omega (arith, ints) in omega (arith, ints)

-- a point as its fields hold it, and as they hold it turned

abbrev pub held : Point → Point
held p =
    record { x = to_z w128 (of_z w128 p.x); y = to_z w128 (of_z w128 p.y); z = to_z w128 (of_z w128 p.z); w = to_z w128 (of_z w128 p.w) }

abbrev pub held_turned : Point → Point
held_turned p = record {
  x = to_z w128 (of_z w128 (pos 0 -ℤ to_z w128 (of_z w128 p.x)));
  y = to_z w128 (of_z w128 (pos 0 -ℤ to_z w128 (of_z w128 p.y)));
  z = to_z w128 (of_z w128 (pos 0 -ℤ to_z w128 (of_z w128 p.z)));
  w = to_z w128 (of_z w128 (pos 0 -ℤ to_z w128 (of_z w128 p.w)));
}

pub held_is : (p : Point) → HasMeetSizes p → held p ≡ p
held_is p s =
    same_point (held p) p (kept_128 p.x _ s.x_small (lit≤ tt)) (kept_128 p.y _ s.y_small (lit≤ tt)) (kept_128 p.z _ s.z_small (lit≤ tt)) (kept_128 p.w _ s.w_small (lit≤ tt))

pub held_turned_is : (p : Point) → HasMeetSizes p → held_turned p ≡ point_times (negsuc 0) p
held_turned_is p s =
    same_point (held_turned p) (point_times (negsuc 0) p) (turned_128 p.x _ s.x_small (lit≤ tt)) (turned_128 p.y _ s.y_small (lit≤ tt)) (turned_128 p.z _ s.z_small (lit≤ tt)) (turned_128 p.w _ s.w_small (lit≤ tt))

pub held_is_corner : (p : Point) → pos 0 <ℤ p.w → HasMeetSizes p → IsCorner (held p)
held_is_corner p w s = subst IsCorner (sym (held_is p s)) (record { weight = w; sizes = s })

-- what holds of the numbers as the code holds them, holds of the numbers
rule_kept : (Rule : ℤ → ℤ → ℤ → Type 0) (a b q : ℤ) → unsigned_abs a ≤ 3 * 2 ^ 97 → unsigned_abs b ≤ 3 * 2 ^ 79 → FitsSigned w32 q → Rule (to_z w128 (of_z w128 a)) (to_z w128 (of_z w128 b)) q → Rule a b (to_z w32 (of_z w32 q))
rule_kept Rule a b q h k l r =
    rw (to_z-of_z w32 q l) (rw (kept_128 a _ h (lit≤ tt), kept_128 b _ k (lit≤ tt)) at r)

-- so the three coordinates of a corner are what a rule makes of them
pub rules_kept : (Rule : ℤ → ℤ → ℤ → Type 0) (p : Point) → IsCorner p → (x y z : ℤ) → FitsSigned w32 x → FitsSigned w32 y → FitsSigned w32 z →
    Rule (to_z w128 (of_z w128 p.x)) (to_z w128 (of_z w128 p.w)) x → Rule (to_z w128 (of_z w128 p.y)) (to_z w128 (of_z w128 p.w)) y → Rule (to_z w128 (of_z w128 p.z)) (to_z w128 (of_z w128 p.w)) z →
    AreCoordinatesBy Rule p (to_z w32 (of_z w32 x) ∷ to_z w32 (of_z w32 y) ∷ to_z w32 (of_z w32 z) ∷ [])
rules_kept Rule p c x y z fits_x fits_y fits_z is_x is_y is_z = record {
  of_x = rule_kept Rule p.x p.w x c.sizes.x_small c.sizes.w_small fits_x is_x;
  of_y = rule_kept Rule p.y p.w y c.sizes.y_small c.sizes.w_small fits_y is_y;
  of_z = rule_kept Rule p.z p.w z c.sizes.z_small c.sizes.w_small fits_z is_z;
}

-- the coordinates of a corner, as the code gives them to be rounded

small_kept : (a b : ℤ) → IsSmallCoordinate a b → IsSmallCoordinate (to_z w128 (of_z w128 a)) (to_z w128 (of_z w128 b))
small_kept a b h = rw (kept_128 a _ h.over_size (lit≤ tt), kept_128 b _ h.under_size (lit≤ tt)) h

pub x_kept : (p : Point) → IsCorner p → HasSmallCoordinates p → IsSmallCoordinate (to_z w128 (of_z w128 p.x)) (to_z w128 (of_z w128 p.w))
x_kept p c s =
    small_kept p.x p.w (record { positive = c.weight; small = s.x_small; over_size = c.sizes.x_small; under_size = c.sizes.w_small })

pub y_kept : (p : Point) → IsCorner p → HasSmallCoordinates p → IsSmallCoordinate (to_z w128 (of_z w128 p.y)) (to_z w128 (of_z w128 p.w))
y_kept p c s =
    small_kept p.y p.w (record { positive = c.weight; small = s.y_small; over_size = c.sizes.y_small; under_size = c.sizes.w_small })

pub z_kept : (p : Point) → IsCorner p → HasSmallCoordinates p → IsSmallCoordinate (to_z w128 (of_z w128 p.z)) (to_z w128 (of_z w128 p.w))
z_kept p c s =
    small_kept p.z p.w (record { positive = c.weight; small = s.z_small; over_size = c.sizes.z_small; under_size = c.sizes.w_small })
