-- Whole coordinates and coordinates in thousandths: how large they are, and that the points of them lie in the closed cube.
use Rattle.std.proofs.Common.{ℕ, suc, zero, ◌≤◌, ℤ, pos, List, [], ◌∷◌, slice_index_or, refl, arith, lit≤, unsigned_abs, w32}
use Rattle.std.proofs.lemmas.Int.{ints}
use Rattle.qm_numbers.proofs.Bits.{kept_32}
use Rattle.qm_numbers.proofs.Kept.{kept}
use Rattle.qm_space.specs.Bounds.{world_extent, thousandths_bound}
use Rattle.qm_space.specs.Point.{whole_point, thousandths_point, IsCoordinate, AreCoordinates, IsThousandths, AreThousandths, IsWholePoint}
use Rattle.qm_space.specs.Cube.{IsUpToExtent, IsInClosedCube}

-- ---- sizes

pub coordinate_small : (c : ℤ) → IsCoordinate c → unsigned_abs c ≤ world_extent
coordinate_small c h = let l = h.low in let r = h.high in omega (arith, ints)

pub thousandths_small : (c : ℤ) → IsThousandths c → unsigned_abs c ≤ thousandths_bound
thousandths_small c h = let l = h.low in let r = h.high in omega (arith, ints)

pub coordinate_is_thousandths : (c : ℤ) → IsCoordinate c → IsThousandths c
coordinate_is_thousandths c h = let l = h.low in let r = h.high in record { low = omega (arith, ints); high = omega (arith, ints) }

pub thousandths_of_coordinates : (at : List ℤ) → AreCoordinates at → AreThousandths at
thousandths_of_coordinates at are = λ i d within. coordinate_is_thousandths _ (are i d within)

-- ---- as code holds them in 32 bits

pub coordinate_kept : (c : ℤ) → IsCoordinate c → IsCoordinate (kept w32 c)
coordinate_kept c h = rw (kept_32 c world_extent (coordinate_small c h) (lit≤ tt)) h

pub thousandths_kept : (c : ℤ) → IsThousandths c → IsThousandths (kept w32 c)
thousandths_kept c h = rw (kept_32 c thousandths_bound (thousandths_small c h) (lit≤ tt)) h

-- ---- the numbers of a list

coordinate_read : (at : List ℤ) (i : ℕ) → AreCoordinates at → IsCoordinate (slice_index_or at i (pos 0))
coordinate_read [] i h = record { low = omega (arith, ints); high = omega (arith, ints) }
coordinate_read (c ∷ at) zero h = h zero (pos 0) (omega arith)
coordinate_read (c ∷ at) (suc i) h = coordinate_read at i (λ k d l. h (suc k) d (omega arith))

pub thousandths_read : (at : List ℤ) (i : ℕ) → AreThousandths at → IsThousandths (slice_index_or at i (pos 0))
thousandths_read [] i h = record { low = omega (arith, ints); high = omega (arith, ints) }
thousandths_read (c ∷ at) zero h = h zero (pos 0) (omega arith)
thousandths_read (c ∷ at) (suc i) h = thousandths_read at i (λ k d l. h (suc k) d (omega arith))

-- ---- points

-- three coordinates make a whole point
pub whole_point_is_whole : (at : List ℤ) → AreCoordinates at → IsWholePoint (whole_point at)
whole_point_is_whole at h = record { x = coordinate_read at 0 h; y = coordinate_read at 1 h; z = coordinate_read at 2 h; weight = refl }

-- the points lie in the closed cube
pub whole_in_closed_cube : (at : List ℤ) → AreCoordinates at → IsInClosedCube (whole_point at)
whole_in_closed_cube at are = record { weight = omega (arith, ints); x = up_to _ (coordinate_read at 0 are); y = up_to _ (coordinate_read at 1 are); z = up_to _ (coordinate_read at 2 are) }
  where
    up_to : (c : ℤ) → IsCoordinate c → IsUpToExtent c (pos 1)
    up_to c h = let l = h.low in let r = h.high in record { above = omega (arith, ints); below = omega (arith, ints) }

pub thousandths_in_closed_cube : (at : List ℤ) → AreThousandths at → IsInClosedCube (thousandths_point at)
thousandths_in_closed_cube at are = record { weight = omega (arith, ints); x = up_to _ (thousandths_read at 0 are); y = up_to _ (thousandths_read at 1 are); z = up_to _ (thousandths_read at 2 are) }
  where
    up_to : (c : ℤ) → IsThousandths c → IsUpToExtent c (pos 1000)
    up_to c h = let l = h.low in let r = h.high in record { above = omega (arith, ints); below = omega (arith, ints) }
