-- Separators do not depend on how a winding is written: windings with the same points have the same ones.
use Rattle.std.proofs.Common.{◌≡◌, ℕ, ◌<◌, ℤ, pos, ◌<ℤ◌, List, [], ◌∷◌, length, Some, slice_get, ap, sym, subst, ◌∙◌, inl, inr, ⊎_elim}
use Rattle.qm_space.specs.Point.{Point, IsSamePlace}
use Rattle.qm_space.specs.Plane.{Plane, IsInFront, IsBehind, IsNotBehind, IsNotInFront}
use Rattle.qm_space.specs.LeastDistance.{plane_at_distance, IsLeastDistance}
use Rattle.qm_convex.specs.Winding.{Winding, next_place, corner_at, corners, IsConvex}
use Rattle.qm_convex.specs.Sides.{HasNoCornerBehind, HasCornerBehind, HasCornerInFront}
use Rattle.qm_convex.specs.Vertex.{IsSomeCorner}
use Rattle.qm_convex.proofs.Places.{next_below}
use Rattle.qm_convex.proofs.Corners.{corners_length}
use Rattle.qm_separators.specs.WholePoints.{IsNearestPoint, IsAround}
use Rattle.qm_separators.specs.Across.{HasNormalAcross}
use Rattle.qm_separators.specs.Separator.{IsSeparator}
use Rattle.qm_separators.specs.Part.{HasSameRegion}
use Rattle.qm_separators.proofs.WholePointLaws.{nearest_of_place, around_of_place}
use Rattle.qm_separators.proofs.Normals.{normal_swapped}
use Rattle.qm_separators.proofs.CornerLists.{corner_of_slice, slice_of_corner, corner_of_contains, contains_corner, all_corners, corners_all, any_corner, corner_any}
use Rattle.qm_separators.proofs.SameCorners.{place_in_front, place_behind, place_not_behind, place_not_in_front, same_back, corner_too, first_too, second_too, neighbours_too}

-- ---- the same planes across both

module _ (s t p q : Winding) (s_convex : IsConvex s) (t_convex : IsConvex t) (p_convex : IsConvex p) (q_convex : IsConvex q) (st : HasSameRegion s t) (pq : HasSameRegion p q) where
  pub across_too : (h : Plane) → HasNormalAcross (corners s) (corners p) h → HasNormalAcross (corners t) (corners q) h
  across_too h is = ⊎_elim straight turned (neighbours_too s t s_convex t_convex st is.place below)
    where
      at_first : (is.place < length s.edges) × (is.first ≡ corner_at s is.place)
      at_first = corner_of_slice s is.place is.first is.first_is

      below : is.place < length s.edges
      below = at_first.0

      at_second : (next_place (length (corners s)) is.place < length s.edges) × (is.second ≡ corner_at s (next_place (length (corners s)) is.place))
      at_second = corner_of_slice s (next_place (length (corners s)) is.place) is.second is.second_is

      second_at : is.second ≡ corner_at s (next_place (length s.edges) is.place)
      second_at = at_second.1 ∙ ap (λ (n : ℕ). corner_at s (next_place n is.place)) (corners_length s)

      at_corner : (i : ℕ) × (i < length p.edges) × (is.corner ≡ corner_at p i)
      at_corner = corner_of_contains p is.corner is.corner_is

      -- the three corners of the others
      one : IsSomeCorner t (corner_at s is.place)
      one = first_too s t s_convex t_convex st is.place below

      two : IsSomeCorner t (corner_at s (next_place (length s.edges) is.place))
      two = second_too s t s_convex t_convex st is.place below

      three : IsSomeCorner q (corner_at p at_corner.0)
      three = corner_too p q p_convex q_convex pq at_corner.0 at_corner.1

      first_near : IsNearestPoint (corner_at t one.0) is.from
      first_near = nearest_of_place (corner_at s is.place) (corner_at t one.0) is.from (s_convex.weight is.place below) (t_convex.weight one.0 one.1) one.2 (subst (λ (c : Point). IsNearestPoint c is.from) at_first.1 is.from_is)

      second_near : IsNearestPoint (corner_at t two.0) is.to
      second_near = nearest_of_place (corner_at s (next_place (length s.edges) is.place)) (corner_at t two.0) is.to (s_convex.weight (next_place (length s.edges) is.place) (next_below (length s.edges) is.place below)) (t_convex.weight two.0 two.1) two.2 (subst (λ (c : Point). IsNearestPoint c is.to) second_at is.to_is)

      around : IsAround (corner_at q three.0) is.at
      around = around_of_place (corner_at p at_corner.0) (corner_at q three.0) is.at (p_convex.weight at_corner.0 at_corner.1) (q_convex.weight three.0 three.1) three.2 (subst (λ (c : Point). IsAround c is.at) at_corner.2 is.at_is)

      next_slice : (j k : ℕ) → j < length t.edges → k < length t.edges → k ≡ next_place (length t.edges) j → slice_get (corners t) (next_place (length (corners t)) j) ≡ Some (corner_at t k)
      next_slice j k j_in k_in e = ap (λ (n : ℕ). slice_get (corners t) (next_place n j)) (corners_length t) ∙ ap (slice_get (corners t)) (sym e) ∙ slice_of_corner t k k_in

      straight : two.0 ≡ next_place (length t.edges) one.0 → HasNormalAcross (corners t) (corners q) h
      straight e = record {
        place = one.0;
        first = corner_at t one.0;
        second = corner_at t two.0;
        corner = corner_at q three.0;
        first_is = slice_of_corner t one.0 one.1;
        second_is = next_slice one.0 two.0 one.1 two.1 e;
        corner_is = contains_corner q three.0 three.1;
        from = is.from;
        to = is.to;
        at = is.at;
        from_is = first_near;
        to_is = second_near;
        at_is = around;
        normal = is.normal;
      }

      turned : one.0 ≡ next_place (length t.edges) two.0 → HasNormalAcross (corners t) (corners q) h
      turned e = record {
        place = two.0;
        first = corner_at t two.0;
        second = corner_at t one.0;
        corner = corner_at q three.0;
        first_is = slice_of_corner t two.0 two.1;
        second_is = next_slice two.0 one.0 two.1 one.1 e;
        corner_is = contains_corner q three.0 three.1;
        from = is.to;
        to = is.from;
        at = is.at;
        from_is = second_near;
        to_is = first_near;
        at_is = around;
        normal = normal_swapped is.at is.from is.to h is.normal;
      }

-- ---- the same sides of corners, and so the same distances

module _ (v w : Winding) (v_convex : IsConvex v) (w_convex : IsConvex w) (same : HasSameRegion v w) where
  -- each corner of w is one of v
  back : (i : ℕ) → i < length w.edges → IsSomeCorner v (corner_at w i)
  back i h = corner_too w v w_convex v_convex (same_back v w same) i h

  -- what places share, and corners of v have, corners of w have
  each_too : (P : Point → Type 0) → ((p q : Point) → pos 0 <ℤ p.w → pos 0 <ℤ q.w → IsSamePlace p q → P p → P q) → ((i : ℕ) → i < length v.edges → P (corner_at v i)) → (i : ℕ) → i < length w.edges → P (corner_at w i)
  each_too P share all i h = let c = back i h in share (corner_at v c.0) (corner_at w i) (v_convex.weight c.0 c.1) (w_convex.weight i h) (sym c.2) (all c.0 c.1)

  some_too : (P : Point → Type 0) → ((p q : Point) → pos 0 <ℤ p.w → pos 0 <ℤ q.w → IsSamePlace p q → P p → P q) → ((i : ℕ) × (i < length v.edges) × P (corner_at v i)) → (i : ℕ) × (i < length w.edges) × P (corner_at w i)
  some_too P share some =
      let c = corner_too v w v_convex w_convex same some.0 some.1 in
      (c.0, c.1, share (corner_at v some.0) (corner_at w c.0) (v_convex.weight some.0 some.1) (w_convex.weight c.0 c.1) c.2 some.2)

  pub none_behind_too : (h : Plane) → HasNoCornerBehind v h → HasNoCornerBehind w h
  none_behind_too h = each_too (λ p. IsNotBehind h p) (place_not_behind h)

  pub behind_too : (h : Plane) → HasCornerBehind v h → HasCornerBehind w h
  behind_too h = some_too (λ p. IsBehind h p) (place_behind h)

  pub in_front_too : (h : Plane) → HasCornerInFront v h → HasCornerInFront w h
  in_front_too h = some_too (λ p. IsInFront h p) (place_in_front h)

  pub least_too : (normal : List ℤ) (d : ℤ) → IsLeastDistance normal (corners v) d → IsLeastDistance normal (corners w) d
  least_too normal d is = record {
    none_in_front = λ e l. corners_all (λ p. IsNotInFront (plane_at_distance normal e) p) w (each_too (λ p. IsNotInFront (plane_at_distance normal e) p) (place_not_in_front (plane_at_distance normal e)) (all_corners (λ p. IsNotInFront (plane_at_distance normal e) p) v (is.none_in_front e l)));
    some_in_front = λ e l. corner_any (λ p. IsInFront (plane_at_distance normal e) p) w (some_too (λ p. IsInFront (plane_at_distance normal e) p) (place_in_front (plane_at_distance normal e)) (any_corner (λ p. IsInFront (plane_at_distance normal e) p) v (is.some_in_front e l)));
  }

-- ---- the same separators

pub separator_too : (s t p q : Winding) → IsConvex s → IsConvex t → IsConvex p → IsConvex q → HasSameRegion s t → HasSameRegion p q → (h : Plane) → IsSeparator s p h → IsSeparator t q h
separator_too s t p q s_convex t_convex p_convex q_convex st pq h is = record {
  across = ⊎_elim (λ c. inl (across_too s t p q s_convex t_convex p_convex q_convex st pq h c)) (λ c. inr (across_too p q s t p_convex q_convex s_convex t_convex pq st h c)) is.across;
  touches = least_too s t s_convex t_convex st (h.nx ∷ h.ny ∷ h.nz ∷ []) h.d is.touches;
  in_front = none_behind_too p q p_convex q_convex pq h is.in_front;
  strict = ⊎_elim (λ b. inl (behind_too s t s_convex t_convex st h b)) (λ f. inr (in_front_too p q p_convex q_convex pq h f)) is.strict;
  small = is.small;
}
