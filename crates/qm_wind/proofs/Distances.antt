-- Distances that are coordinates keep their numbers in 32 bits.
use Rattle.std.proofs.Common.{◌≡◌, ℤ, pos, neg_ℤ, ◌-ℤ◌, ◌≤◌, unsigned_abs, w32, w64, to_z, of_z, ap, ◌∙◌, lit≤, arith}
use Rattle.std.proofs.lemmas.Int.{ints}
use Rattle.qm_numbers.proofs.Bits.{kept_32, kept_64}
use Rattle.qm_numbers.proofs.Signs.{abs_neg}
use Rattle.qm_space.specs.Bounds.{world_extent}
use Rattle.qm_space.specs.Point.{IsCoordinate}
use Rattle.qm_space.proofs.CoordinateSizes.{coordinate_small}

pub kept_distance : (n d : ℤ) → n ≡ d → IsCoordinate d → to_z w32 (of_z w32 (to_z w64 (of_z w64 n))) ≡ d
kept_distance n d e is =
    ap (λ (z : ℤ). to_z w32 (of_z w32 (to_z w64 (of_z w64 z)))) e
    ∙ ap (λ (z : ℤ). to_z w32 (of_z w32 z)) (kept_64 d world_extent (coordinate_small d is) (lit≤ tt))
    ∙ kept_32 d world_extent (coordinate_small d is) (lit≤ tt)

-- and so does one that is turned round
pub kept_negated : (n d : ℤ) → n ≡ d → IsCoordinate (neg_ℤ d) → to_z w32 (of_z w32 (to_z w64 (of_z w64 (pos 0 -ℤ to_z w64 (of_z w64 n))))) ≡ neg_ℤ d
kept_negated n d e is =
    ap (λ (z : ℤ). to_z w32 (of_z w32 (to_z w64 (of_z w64 (pos 0 -ℤ z))))) (ap (λ (z : ℤ). to_z w64 (of_z w64 z)) e ∙ kept_64 d world_extent small (lit≤ tt))
    ∙ kept_distance (pos 0 -ℤ d) (neg_ℤ d) (omega (arith, ints)) is
  where
    small : unsigned_abs d ≤ world_extent
    small = let s = coordinate_small (neg_ℤ d) is in let same = abs_neg d in omega arith
