-- Planes across two windings by their outlines: for each corner the nearest whole point, the one below and the one above.
use Rattle.std.proofs.Common.{◌≡◌, ℕ, ◌<◌, [], ◌∷◌, length, slice_get, ap, subst, ◌∙◌, ◌↔◌}
use Rattle.qm_space.specs.Point.{Point}
use Rattle.qm_space.specs.Plane.{Plane}
use Rattle.qm_space.specs.Vector.{normal_of}
use Rattle.qm_space.proofs.ReducedPlanes.{same_plane}
use Rattle.qm_space.specs.LeastDistance.{IsLeastDistance}
use Rattle.qm_convex.specs.Winding.{Winding, next_place, corner_at, corners, IsConvex}
use Rattle.qm_convex.proofs.Places.{next_below}
use Rattle.qm_convex.proofs.Corners.{corners_length}
use Rattle.qm_separators.specs.WholePoints.{IsNearestPoint, IsAround}
use Rattle.qm_separators.specs.Across.{HasNormalOf, HasNormalAcross}
use Rattle.qm_separators.specs.Separator.{IsSeparator}
use Rattle.qm_separators.proofs.WholePointLaws.{nearest_alone, around_is_mix}
use Rattle.qm_separators.proofs.Distances.{distance_alone}
use Rattle.qm_separators.proofs.CornerLists.{corner_of_slice, slice_of_corner, corner_of_contains, contains_corner}
use Rattle.qm_separators.specs.inner.Outline.{AreNearest, AreAround, HasNormalAt}

module _ (v w : Winding) (v_convex : IsConvex v) (w_convex : IsConvex w) (near below above : ℕ → Point) (nearest : AreNearest v near) (around : AreAround w below above) where
  -- over all edges and corners that is exactly to be across both
  pub across_by_outline : (h : Plane) → HasNormalAcross (corners v) (corners w) h ↔ ((i : ℕ) × (i < length v.edges) × ((k : ℕ) × (k < length w.edges) × HasNormalAt v near below above i k h))
  across_by_outline h = (forth, back)
    where
      forth : HasNormalAcross (corners v) (corners w) h → (i : ℕ) × (i < length v.edges) × ((k : ℕ) × (k < length w.edges) × HasNormalAt v near below above i k h)
      forth is =
          let one = corner_of_slice v is.place is.first is.first_is in
          let two = corner_of_slice v (next_place (length (corners v)) is.place) is.second is.second_is in
          let three = corner_of_contains w is.corner is.corner_is in
          let next = next_place (length v.edges) is.place in
          let second : is.second ≡ corner_at v next = two.1 ∙ ap (λ (n : ℕ). corner_at v (next_place n is.place)) (corners_length v) in
          let next_in = next_below (length v.edges) is.place one.0 in
          let from = nearest_alone (corner_at v is.place) is.from (near is.place) (v_convex.weight is.place one.0) (subst (λ (p : Point). IsNearestPoint p is.from) one.1 is.from_is) (nearest is.place one.0) in
          let to = nearest_alone (corner_at v next) is.to (near next) (v_convex.weight next next_in) (subst (λ (p : Point). IsNearestPoint p is.to) second is.to_is) (nearest next next_in) in (
            is.place,
            one.0,
            (
              three.0,
              three.1,
              record {
                at = is.at;
                mix = (around_is_mix (corner_at w three.0) (below three.0) (above three.0) is.at (w_convex.weight three.0 three.1) (around.low three.0 three.1) (around.high three.0 three.1)).0 (subst (λ (p : Point). IsAround p is.at) three.2 is.at_is);
                normal = subst (λ (p : Point). HasNormalOf is.at (near is.place) p h) to (subst (λ (p : Point). HasNormalOf is.at p is.to h) from is.normal);
              },
            ),
          )

      back : (i : ℕ) × (i < length v.edges) × ((k : ℕ) × (k < length w.edges) × HasNormalAt v near below above i k h) → HasNormalAcross (corners v) (corners w) h
      back (i, i_in, (k, k_in, is)) =
          let next = next_place (length v.edges) i in
          let next_in = next_below (length v.edges) i i_in in
          record {
            place = i;
            first = corner_at v i;
            second = corner_at v next;
            corner = corner_at w k;
            first_is = slice_of_corner v i i_in;
            second_is = ap (λ (n : ℕ). slice_get (corners v) (next_place n i)) (corners_length v) ∙ slice_of_corner v next next_in;
            corner_is = contains_corner w k k_in;
            from = near i;
            to = near next;
            at = is.at;
            from_is = nearest i i_in;
            to_is = nearest next next_in;
            at_is = (around_is_mix (corner_at w k) (below k) (above k) is.at (w_convex.weight k k_in) (around.low k k_in) (around.high k k_in)).1 is.mix;
            normal = is.normal;
          }

-- separators with one normal are one: a normal that was found need not be tried again
pub separator_by_normal : (s p : Winding) (g h : Plane) → IsSeparator s p g → IsSeparator s p h → normal_of g ≡ normal_of h → g ≡ h
separator_by_normal s p g h first second e =
    same_plane g h (ap (λ (n : Point). n.x) e) (ap (λ (n : Point). n.y) e) (ap (λ (n : Point). n.z) e)
    (distance_alone (h.nx ∷ h.ny ∷ h.nz ∷ []) (corners s) g.d h.d (subst (λ (n : Point). IsLeastDistance (n.x ∷ n.y ∷ n.z ∷ []) (corners s) g.d) e first.touches) second.touches)
