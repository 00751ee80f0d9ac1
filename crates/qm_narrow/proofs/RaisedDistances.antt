-- The least distance for a normal, corner by corner: from where the whole points near the corners begin it.
use Rattle.std.proofs.Common.{◌≡◌, ℕ, suc, zero, ◌+◌, ◌<◌, ℤ, pos, ◌<ℤ◌, ◌≤ℤ◌, [], ◌∷◌, length, get_or, sym, subst, arith}
use Rattle.std.specs.Int.{int_max}
use Rattle.std.specs.Prelude.{int_lt, false}
use Rattle.std.proofs.lemmas.Int.{ints}
use Rattle.std.specs.List.{Any}
use Rattle.std.proofs.lemmas.List.Elements.{All-nil, All-more}
use Rattle.qm_numbers.proofs.IntegerProducts.{linear}
use Rattle.qm_space.specs.Point.{Point}
use Rattle.qm_space.specs.Plane.{Plane, value, IsInFront, IsNotInFront}
use Rattle.qm_space.specs.Vector.{normal_of}
use Rattle.qm_space.specs.LeastDistance.{plane_at_distance, IsLeastDistance}
use Rattle.qm_space.proofs.LeastDistances.{IsLeastSoFar, so_far_gained}
use Rattle.qm_convex.specs.Winding.{Winding, corner_at, corners, IsConvex}
use Rattle.qm_convex.specs.Sides.{HasNoCornerInFront}
use Rattle.qm_convex.proofs.Corners.{corners_length, corner_in_list}
use Rattle.qm_separators.proofs.Distances.{least_distance}
use Rattle.qm_geom.specs.Vectors.{direction_of}
use Rattle.qm_geom.specs.declared.vector.Vector.{Vector}
use Rattle.qm_narrow.specs.declared.reach.Reach.{Reach}
use Rattle.qm_narrow.specs.declared.spot.Spot.{Spot}
use Rattle.qm_narrow.specs.inner.Trace.{IsSpotOf}
use Rattle.qm_narrow.specs.inner.Look.{at_distance, greatest_along, IsReach}
use Rattle.qm_narrow.proofs.Outlooks.{greatest_not_in_front}

-- what a test for less tells where it fails
pub at_most_where : (least greatest : ℤ) → int_lt least greatest ≡ false → greatest ≤ℤ least
at_most_where least greatest e = omega (arith, ints)

in_front_alone : (P : Point → Type 0) (p : Point) → Any P (p ∷ []) → P p
in_front_alone P p (zero, q, l, e, is) = subst P (sym e) is
in_front_alone P p (suc k, q, l, e, is) = absurd (omega arith)

module _ (v : Winding) (convex : IsConvex v) (h : Plane) (n : Vector) (same : direction_of n ≡ normal_of h) where
  in_corners : (i : ℕ) → i < length v.edges → i < length (corners v)
  in_corners i below = let e = corners_length v in omega arith

  -- it begins at the reach's low distance
  pub raised_begins : (reach : Reach) → IsReach v n reach → IsLeastSoFar (h.nx ∷ h.ny ∷ h.nz ∷ []) (corners v) 0 reach.low
  raised_begins reach is = record {
    none_in_front = λ d k. All-nil (λ p. value (plane_at_distance (h.nx ∷ h.ny ∷ h.nz ∷ []) d) p ≤ℤ pos 0);
    some_in_front = λ d l. let low = is.low true_least.0 none in true_least.1.some_in_front d (omega (arith, linear));
  }
    where
      some : 0 < length (corners v)
      some = let e = convex.enough in in_corners 0 (omega arith)

      weights : (i : ℕ) (d : Point) → i < length (corners v) → pos 0 <ℤ (get_or (corners v) i d).w
      weights i d l =
          let e = corners_length v in let below : i < length v.edges = omega arith in
          subst (λ (p : Point). pos 0 <ℤ p.w) (sym (corner_in_list v i d below)) (convex.weight i below)

      true_least : (least : ℤ) × IsLeastDistance (h.nx ∷ h.ny ∷ h.nz ∷ []) (corners v) least
      true_least = least_distance (h.nx ∷ h.ny ∷ h.nz ∷ []) (corners v) some weights (corner_at v 0)

      none : HasNoCornerInFront v (at_distance n true_least.0)
      none i below =
          subst (λ (m : Point). IsNotInFront (record { nx = m.x; ny = m.y; nz = m.z; d = true_least.0 }) (corner_at v i)) (sym same)
          (subst (λ (p : Point). IsNotInFront (plane_at_distance (h.nx ∷ h.ny ∷ h.nz ∷ []) true_least.0) p) (corner_in_list v i (corner_at v i) below)
          (true_least.1.none_in_front true_least.0 (omega (arith, linear)) i (corner_at v i) (in_corners i below)))

  module _ (i : ℕ) (below : i < length v.edges) (least : ℤ) (so_far : IsLeastSoFar (h.nx ∷ h.ny ∷ h.nz ∷ []) (corners v) i least) where
    -- a corner that cannot be in front there leaves it
    pub raised_past : (spot : Spot) → IsSpotOf (corner_at v i) spot → greatest_along n spot ≤ℤ least → IsLeastSoFar (h.nx ∷ h.ny ∷ h.nz ∷ []) (corners v) (i + 1) least
    raised_past spot is at_most = record {
      none_in_front = λ d k.
          All-more (λ p. value (plane_at_distance (h.nx ∷ h.ny ∷ h.nz ∷ []) d) p ≤ℤ pos 0) (corners v) i (corner_at v i) (in_corners i below) (so_far.none_in_front d k)
          (subst (λ (p : Point). value (plane_at_distance (h.nx ∷ h.ny ∷ h.nz ∷ []) d) p ≤ℤ pos 0) (sym (corner_in_list v i (corner_at v i) below))
          (subst (λ (m : Point). IsNotInFront (record { nx = m.x; ny = m.y; nz = m.z; d = d }) (corner_at v i)) same
          (greatest_not_in_front n (corner_at v i) spot (convex.weight i below) is d (omega (arith, linear)))));
      some_in_front = so_far.some_in_front;
    }

    -- and another one raises it to its own
    pub raised_by : (next : ℤ) → IsLeastDistance (h.nx ∷ h.ny ∷ h.nz ∷ []) (corner_at v i ∷ []) next → IsLeastSoFar (h.nx ∷ h.ny ∷ h.nz ∷ []) (corners v) (i + 1) (int_max least next)
    raised_by next is =
        so_far_gained (h.nx ∷ h.ny ∷ h.nz ∷ []) (corners v) i (corner_at v i) least next (sym (corner_in_list v i (corner_at v i) below)) (in_corners i below) so_far
        (record {
          not_in_front = λ d l. is.none_in_front d l 0 (corner_at v i) (omega arith);
          in_front = λ d l. in_front_alone (λ p. IsInFront (plane_at_distance (h.nx ∷ h.ny ∷ h.nz ∷ []) d) p) (corner_at v i) (is.some_in_front d l);
        })
