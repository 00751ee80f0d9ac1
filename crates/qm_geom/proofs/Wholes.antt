-- Points in thousandths of a map unit that are whole points.
use Rattle.std.proofs.Common.{◌≡◌, ◌∙◌, ℤ, pos, ◌*ℤ◌, List, [], ◌∷◌, slice_index_or, ap, refl, sym, lit≤, w32}
use Rattle.std.proofs.lemmas.List.Elements.{All-from_recursion}
use Rattle.qm_numbers.proofs.Bits.{kept_32}
use Rattle.qm_numbers.proofs.IntegerProducts.{one_*ℤ}
use Rattle.qm_numbers.proofs.Kept.{kept}
use Rattle.qm_space.specs.Bounds.{world_extent, thousandths_bound}
use Rattle.qm_space.specs.Point.{point_times, whole_point, thousandths_point, IsCoordinate, AreCoordinates, IsThousandths, AreThousandths, IsSamePlace}
use Rattle.qm_space.proofs.CoordinateSizes.{coordinate_small, thousandths_small, thousandths_read, coordinate_kept}
use Rattle.qm_space.proofs.Planes.{same_point}

-- three whole coordinates, as code holds them, of the three of a point in thousandths
module _ (at : List ℤ) (a b c : ℤ) (inside : AreThousandths at) (x : IsCoordinate a × (kept w32 (slice_index_or at 0 (pos 0)) ≡ pos 1000 *ℤ a)) (y : IsCoordinate b × (kept w32 (slice_index_or at 1 (pos 0)) ≡ pos 1000 *ℤ b)) (z : IsCoordinate c × (kept w32 (slice_index_or at 2 (pos 0)) ≡ pos 1000 *ℤ c)) where
  pub are_coordinates : AreCoordinates (kept w32 a ∷ kept w32 b ∷ kept w32 c ∷ [])
  are_coordinates = All-from_recursion IsCoordinate (kept w32 a ∷ kept w32 b ∷ kept w32 c ∷ []) (coordinate_kept a x.0, (coordinate_kept b y.0, (coordinate_kept c z.0, tt)))

  same : (n w : ℤ) → IsThousandths n → IsCoordinate w → kept w32 n ≡ pos 1000 *ℤ w → pos 1 *ℤ n ≡ pos 1000 *ℤ kept w32 w
  same n w small in_cube e =
      one_*ℤ n ∙ sym (kept_32 n thousandths_bound (thousandths_small n small) (lit≤ tt)) ∙ e
      ∙ ap (λ (m : ℤ). pos 1000 *ℤ m) (sym (kept_32 w world_extent (coordinate_small w in_cube) (lit≤ tt)))

  pub is_same_place : IsSamePlace (thousandths_point at) (whole_point (kept w32 a ∷ kept w32 b ∷ kept w32 c ∷ []))
  is_same_place =
      same_point (point_times (pos 1) (thousandths_point at)) (point_times (pos 1000) (whole_point (kept w32 a ∷ kept w32 b ∷ kept w32 c ∷ [])))
      (same _ a (thousandths_read at 0 inside) x.0 x.1) (same _ b (thousandths_read at 1 inside) y.0 y.1) (same _ c (thousandths_read at 2 inside) z.0 z.1) refl
