-- Corners that are whole points: rounded any way, they stay what they are.
use Rattle.std.proofs.Common.{◌≡◌, false, refl, ℤ, pos, ◌-ℤ◌, ◌*ℤ◌, List, length, slice_index_or, subst, sym, arith, unsigned_abs}
use Rattle.std.proofs.lemmas.Int.{ints}
use Rattle.qm_numbers.specs.Rounding.{IsRoundedDown, IsRoundedUp, IsNearest}
use Rattle.qm_space.specs.Point.{Point, AreCoordinates, whole_point}
use Rattle.qm_space.specs.Cube.{IsInClosedCube}
use Rattle.qm_space.specs.Coordinates.{AreCoordinatesBy}
use Rattle.qm_narrow.specs.inner.Trace.{IsSpotOf, IsWholeAt, IsFineOf}
use Rattle.qm_separators.proofs.WholePointLaws.{whole_by_coordinates, nearest_in_cube}
use Rattle.qm_geom.specs.declared.vector.Vector.{Vector}
use Rattle.qm_narrow.proofs.Coordinates.{spot_is, three_in_cube}

-- ---- a whole number, rounded

nearest_itself : (n : ℤ) → IsNearest n (pos 1) n
nearest_itself n = record { near = omega (arith, zero_size); away = λ e. absurd (omega (arith, e, zero_size)) }
  where
    zero_size : unsigned_abs (n -ℤ (n *ℤ pos 1)) ≡ 0
    zero_size = omega (arith, ints)

down_itself : (n : ℤ) → IsRoundedDown n (pos 1) n
down_itself n = record { at_most = omega (arith, ints); next = omega (arith, ints) }

up_itself : (n : ℤ) → IsRoundedUp n (pos 1) n
up_itself n = record { at_least = omega (arith, ints); previous = omega (arith, ints) }

by_itself : (Rule : ℤ → ℤ → ℤ → Type 0) → ((n : ℤ) → Rule n (pos 1) n) → (a w b : ℤ) → w ≡ pos 1 → a ≡ b → Rule a w b
by_itself Rule itself a w b one same = subst (Rule a w) same (subst (λ (v : ℤ). Rule a v a) (sym one) (itself a))

coordinates_by : (Rule : ℤ → ℤ → ℤ → Type 0) → ((n : ℤ) → Rule n (pos 1) n) → (corner : Point) (at : List ℤ) → IsWholeAt corner at → AreCoordinatesBy Rule corner at
coordinates_by Rule itself corner at is = record {
  of_x = by_itself Rule itself corner.x corner.w (slice_index_or at 0 (pos 0)) is.weight is.x;
  of_y = by_itself Rule itself corner.y corner.w (slice_index_or at 1 (pos 0)) is.weight is.y;
  of_z = by_itself Rule itself corner.z corner.w (slice_index_or at 2 (pos 0)) is.weight is.z;
}

pub whole_in : (corner : Point) (at : List ℤ) → IsInClosedCube corner → length at ≡ 3 → IsWholeAt corner at → AreCoordinates at
whole_in corner at inside n is = three_in_cube at n (nearest_in_cube corner (whole_point at) inside (whole_by_coordinates IsNearest corner at (coordinates_by IsNearest nearest_itself corner at is)))

pub whole_spot : (corner : Point) (at : List ℤ) (fine : Vector) → IsInClosedCube corner → length at ≡ 3 → IsWholeAt corner at → IsFineOf corner fine → IsSpotOf corner (record { nearest = at; below = at; above = at; loose = false; fine = fine })
whole_spot corner at fine inside n is fine_is =
    spot_is corner (record { nearest = at; below = at; above = at; loose = false; fine = fine }) inside
    (coordinates_by IsNearest nearest_itself corner at is) (coordinates_by IsRoundedDown down_itself corner at is) (coordinates_by IsRoundedUp up_itself corner at is) n n n (λ _. record { x = refl; y = refl; z = refl }) fine_is
