-- Whole points in the cube, by their three numbers.
use Rattle.std.proofs.Common.{◌≡◌, false, ℤ, List, [], ◌∷◌, length, of_z, w32, inl, inr, arith, lit≤}
use Rattle.std.proofs.lemmas.List.Elements.{All-from_recursion}
use Rattle.qm_numbers.specs.Rounding.{IsNearest, IsRoundedDown, IsRoundedUp}
use Rattle.qm_numbers.proofs.Bits.{same_from_bits_32}
use Rattle.qm_space.specs.Bounds.{world_extent}
use Rattle.qm_space.specs.Point.{Point, IsCoordinate, AreCoordinates, IsWholePoint, whole_point}
use Rattle.qm_space.specs.Cube.{IsInClosedCube}
use Rattle.qm_space.proofs.CoordinateSizes.{coordinate_small, coordinate_kept}
use Rattle.qm_space.specs.Coordinates.{AreCoordinatesBy}
use Rattle.qm_separators.proofs.WholePointLaws.{whole_by_coordinates, nearest_in_cube, around_in_cube}
use Rattle.qm_numbers.proofs.Kept.{kept}
use Rattle.qm_narrow.specs.declared.spot.Spot.{Spot}
use Rattle.qm_narrow.specs.inner.Trace.{IsSpotOf, IsFixed, IsFineOf}

-- numbers of the cube that are alike in 32 bits are one
pub same_coordinate : (a b : ℤ) → IsCoordinate a → IsCoordinate b → of_z w32 a ≡ of_z w32 b → a ≡ b
same_coordinate a b a_in b_in e = same_from_bits_32 a b world_extent (coordinate_small a a_in) (coordinate_small b b_in) (lit≤ tt) e

-- three numbers that make a whole point of the cube are coordinates
pub three_in_cube : (xs : List ℤ) → length xs ≡ 3 → IsWholePoint (whole_point xs) → AreCoordinates xs
three_in_cube [] e is = absurd (omega (arith, e))
three_in_cube (a ∷ []) e is = absurd (omega (arith, e))
three_in_cube (a ∷ b ∷ []) e is = absurd (omega (arith, e))
three_in_cube (a ∷ b ∷ c ∷ []) e is = All-from_recursion IsCoordinate (a ∷ b ∷ c ∷ []) (is.x, (is.y, (is.z, tt)))
three_in_cube (a ∷ b ∷ c ∷ d ∷ xs) e is = absurd (omega (arith, e))

pub spot_is : (corner : Point) (spot : Spot) → IsInClosedCube corner → AreCoordinatesBy IsNearest corner spot.nearest → AreCoordinatesBy IsRoundedDown corner spot.below → AreCoordinatesBy IsRoundedUp corner spot.above → length spot.nearest ≡ 3 → length spot.below ≡ 3 → length spot.above ≡ 3 → (spot.loose ≡ false → IsFixed spot) → IsFineOf corner spot.fine → IsSpotOf corner spot
spot_is corner spot inside nearest below above n b a fixed fine =
    let low = whole_by_coordinates IsRoundedDown corner spot.below below in
    let high = whole_by_coordinates IsRoundedUp corner spot.above above in
    record {
      nearest = nearest;
      below = below;
      above = above;
      nearest_in = three_in_cube spot.nearest n (nearest_in_cube corner (whole_point spot.nearest) inside (whole_by_coordinates IsNearest corner spot.nearest nearest));
      below_in = three_in_cube spot.below b (around_in_cube corner (whole_point spot.below) inside (record { x = inl low.x; y = inl low.y; z = inl low.z; weight = low.weight }));
      above_in = three_in_cube spot.above a (around_in_cube corner (whole_point spot.above) inside (record { x = inr high.x; y = inr high.y; z = inr high.z; weight = high.weight }));
      fixed = fixed;
      fine = fine;
    }

-- three coordinates, as the code puts them into one point
pub three_coordinates : (x y z : ℤ) → IsCoordinate x → IsCoordinate y → IsCoordinate z → AreCoordinates (kept w32 x ∷ kept w32 y ∷ kept w32 z ∷ [])
three_coordinates x y z a b c = All-from_recursion IsCoordinate (kept w32 x ∷ kept w32 y ∷ kept w32 z ∷ []) (coordinate_kept x a, (coordinate_kept y b, (coordinate_kept z c, tt)))
