-- Worked rows: the square between -4 and 4 on the plane z = 0, and its half in front of the plane x = 0.
use Rattle.std.proofs.Common.{◌≡◌, ℕ, zero, suc, ◌<◌, ℤ, pos, neg_ℤ, ◌<ℤ◌, [], ◌∷◌, refl, arith}
use Rattle.std.proofs.lemmas.Int.{ints}
use Rattle.std.proofs.lemmas.List.Elements.{All-from_recursion}
use Rattle.qm_space.specs.Point.{Point}
use Rattle.qm_space.specs.Plane.{Plane, value, IsInFront}
use Rattle.qm_space.specs.Determinant.{determinant}
use Rattle.qm_space.specs.Meet.{meet}
use Rattle.qm_convex.specs.Winding.{Winding, next_place, corner_at, corners, IsConvex, IsInRegion}
use Rattle.qm_convex.specs.Rotation.{place_after}
use Rattle.qm_convex.specs.Cut.{IsPartInFront}
use Rattle.qm_convex.specs.inner.FrontRun.{IsFrontRun, cut}
use Rattle.qm_convex.specs.Sides.{HasCornerBehind}
use Rattle.qm_convex.specs.inner.Square.{square}
use Rattle.qm_convex.proofs.Squares.{square_convex}
use Rattle.qm_convex.proofs.Cutting.{cut_is_part}

abbrev whole_at : ℤ → ℤ → Point
whole_at x y = record { x = x; y = y; z = pos 0; w = pos 1 }

abbrev floor : Plane
floor = record { nx = pos 0; ny = pos 0; nz = pos 1; d = pos 0 }

abbrev left : Plane
left = record { nx = pos 1; ny = pos 0; nz = pos 0; d = neg_ℤ (pos 4) }

abbrev near : Plane
near = record { nx = pos 0; ny = pos 1; nz = pos 0; d = neg_ℤ (pos 4) }

abbrev middle : Plane
middle = record { nx = pos 1; ny = pos 0; nz = pos 0; d = pos 0 }

abbrev tile : Winding
tile = square floor left near

turns : pos 0 <ℤ (meet floor left near).w
unfolding meet determinant
turns = omega (arith, ints)

tile_convex : IsConvex tile
tile_convex = square_convex floor left near turns (omega (arith, ints)) (omega (arith, ints))

tile_corners : corners tile ≡ whole_at (neg_ℤ (pos 4)) (neg_ℤ (pos 4)) ∷ whole_at (pos 4) (neg_ℤ (pos 4)) ∷ whole_at (pos 4) (pos 4) ∷ whole_at (neg_ℤ (pos 4)) (pos 4) ∷ []
unfolding corner_at next_place meet determinant
tile_corners = refl

tile_point : IsInRegion tile (whole_at (pos 3) (pos 1))
unfolding value
tile_point = record { weight = omega (arith, ints); on = refl; inside = All-from_recursion (λ e. IsInFront e (whole_at (pos 3) (pos 1))) tile.edges (omega (arith, ints), (omega (arith, ints), (omega (arith, ints), (omega (arith, ints), tt)))) }

-- two corners are in front of x = 0, from the place 1 on
tile_run : IsFrontRun tile middle 1 2
unfolding corner_at next_place place_after meet determinant value
tile_run = record { in_range = omega arith; some = omega arith; not_all = omega arith; front = front; ended = omega (arith, ints); began = omega (arith, ints) }
  where
    front : (k : ℕ) → k < 2 → IsInFront middle (corner_at tile (place_after 4 1 k))
    front zero h = omega (arith, ints)
    front (suc zero) h = omega (arith, ints)
    front (suc (suc k)) h = absurd (omega arith)

tile_behind : HasCornerBehind tile middle
unfolding corner_at next_place meet determinant value
tile_behind = (0, omega arith, omega (arith, ints))

half_is_part : IsPartInFront (cut tile middle 1 2) tile middle
half_is_part = cut_is_part tile middle 1 2 tile_convex tile_run tile_behind

half_corners : corners (cut tile middle 1 2) ≡ whole_at (pos 4) (neg_ℤ (pos 4)) ∷ whole_at (pos 4) (pos 4) ∷ whole_at (pos 0) (pos 4) ∷ whole_at (pos 0) (neg_ℤ (pos 4)) ∷ []
unfolding corner_at next_place meet determinant
half_corners = refl
