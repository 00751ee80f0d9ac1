-- The separators of two windings are finitely many: some list has exactly them.
use Rattle.std.proofs.Common.{◌≡◌, ℕ, ◌<◌, ℤ, pos, ◌<ℤ◌, List, [], ◌∷◌, length, get_or, Option, Some, None, slice_get, refl, ap, sym, subst, ◌∙◌, arith, ◌⊎◌, inl, inr, ⊎_elim}
use Rattle.qm_numbers.proofs.IntegerProducts.{linear}
use Rattle.qm_numbers.proofs.Signs.{by_least}
use Rattle.qm_separators.proofs.Comparisons.{one_floor}
use Rattle.qm_space.specs.Point.{Point}
use Rattle.qm_space.specs.Plane.{Plane, value, flipped}
use Rattle.qm_space.specs.Reduced.{HasNormal, HasSmallNormal}
use Rattle.qm_space.specs.Vector.{normal_of}
use Rattle.qm_space.specs.ThreePoints.{outward_plane, reduced}
use Rattle.qm_space.proofs.Planes.{flipped_in_front, same_point}
use Rattle.qm_space.proofs.PlanesThroughPoints.{by_normal}
use Rattle.qm_space.proofs.ReducedPlanes.{same_plane}
use Rattle.qm_space.proofs.NormalSizes.{by_normal_size, large_not_small}
use Rattle.qm_space.specs.LeastDistance.{IsLeastDistance}
use Rattle.qm_convex.specs.Winding.{Winding, next_place, corner_at, corners, IsConvex}
use Rattle.qm_convex.specs.Sides.{HasNoCornerBehind, HasCornerBehind, HasCornerInFront}
use Rattle.qm_convex.proofs.Places.{next_below}
use Rattle.qm_convex.proofs.Corners.{corners_length, corner_in_list}
use Rattle.qm_convex.proofs.Central.{by_corner_in_front}
use Rattle.qm_numbers.specs.Rounding.{IsRoundedDown, IsRoundedUp}
use Rattle.qm_separators.specs.WholePoints.{IsRoundedEitherWay, IsNearestPoint, IsAround}
use Rattle.qm_separators.specs.Across.{HasNormalOf, HasNormalAcross}
use Rattle.qm_separators.specs.Separator.{IsSeparator, IsSeparatorFrom}
use Rattle.qm_separators.proofs.Roundings.{one_up, down, up}
use Rattle.qm_separators.proofs.WholePointLaws.{nearest_alone, nearest_point}
use Rattle.qm_separators.proofs.Normals.{normal_of_points, normal_alone, normal_wants_points}
use Rattle.qm_separators.proofs.Distances.{distance_alone, least_distance}
use Rattle.qm_separators.proofs.CornerLists.{corner_of_slice, slice_of_corner, corner_of_contains, contains_corner}
use Rattle.qm_separators.proofs.StepLaw.{IsConvexPass}
use Rattle.qm_separators.proofs.ListedPlanes.{Listed, listed_none, listed_alike, listed_one, listed_either, listed_below, listed_where}
use Rattle.qm_separators.specs.inner.NormalLike.{HasNormalLike, alike, opposite}

-- ---- of whole points

-- the plane has the least distance for its normal
abbrev IsLeastFor : List Point → Plane → Type 0
IsLeastFor cs h = IsLeastDistance (h.nx ∷ h.ny ∷ h.nz ∷ []) cs h.d

module _ (cs : List Point) (some : 0 < length cs) (weights : (i : ℕ) (d : Point) → i < length cs → pos 0 <ℤ (get_or cs i d).w) where
  -- with the normal of a plane there is one
  abbrev least_of : (g : Plane) → (d : ℤ) × IsLeastDistance (g.nx ∷ g.ny ∷ g.nz ∷ []) cs d
  least_of g = least_distance (g.nx ∷ g.ny ∷ g.nz ∷ []) cs some weights (record { x = pos 0; y = pos 0; z = pos 0; w = pos 1 })

  at_least : Plane → Plane
  at_least g = record { nx = g.nx; ny = g.ny; nz = g.nz; d = (least_of g).0 }

  at_least_is : (g : Plane) → IsLeastFor cs (at_least g)
  unfolding at_least
  at_least_is g = (least_of g).1

  at_least_normal : (g : Plane) → normal_of (at_least g) ≡ normal_of g
  unfolding at_least
  at_least_normal g = refl

  -- and no other
  is_at_least : (g h : Plane) → normal_of h ≡ normal_of g → IsLeastFor cs h → h ≡ at_least g
  unfolding at_least
  is_at_least g h e is =
      let x = ap (λ (p : Point). p.x) e in let y = ap (λ (p : Point). p.y) e in let z = ap (λ (p : Point). p.z) e in
      same_plane h (at_least g) x y z (distance_alone (g.nx ∷ g.ny ∷ g.nz ∷ []) cs h.d (least_of g).0
      (subst (λ (p : Point). IsLeastDistance (p.x ∷ p.y ∷ p.z ∷ []) cs h.d) e is) (least_of g).1)

  listed_of_points : (at from to : Point) → from.w ≡ pos 1 → Listed (λ h. HasNormalOf at from to h × IsLeastFor cs h)
  listed_of_points at from to weight = by_normal (outward_plane at from to) there (λ no. listed_none (λ h. HasNormalOf at from to h × IsLeastFor cs h) (λ h is. normal_wants_points at from to h is.0 no.0 no.1 no.2))
    where
      there : HasNormal (outward_plane at from to) → Listed (λ h. HasNormalOf at from to h × IsLeastFor cs h)
      there normal = listed_alike (λ h. (h ≡ at_least g) ⊎ (h ≡ at_least (flipped g))) (λ h. HasNormalOf at from to h × IsLeastFor cs h)
          (λ h. (
            (λ e. ⊎_elim
                (λ same. subst (λ (k : Plane). HasNormalOf at from to k × IsLeastFor cs k) (sym same) (normal_of_points at from to (at_least g) weight normal (alike (at_least_normal g)), at_least_is g))
                (λ same. subst (λ (k : Plane). HasNormalOf at from to k × IsLeastFor cs k) (sym same) (normal_of_points at from to (at_least (flipped g)) weight normal (opposite (at_least_normal (flipped g))), at_least_is (flipped g)))
                e),
            (λ is. by_like h is.1 (normal_alone at from to h g is.0 (normal_of_points at from to g weight normal (alike refl)))),
          ))
          (listed_either (λ h. h ≡ at_least g) (λ h. h ≡ at_least (flipped g)) (listed_one (at_least g)) (listed_one (at_least (flipped g))))
        where
          g : Plane
          g = reduced (outward_plane at from to)

          by_like : (h : Plane) → IsLeastFor cs h → HasNormalLike h (reduced (outward_plane at from to)) → (h ≡ at_least (reduced (outward_plane at from to))) ⊎ (h ≡ at_least (flipped (reduced (outward_plane at from to))))
          by_like h is (alike e) = inl (is_at_least (reduced (outward_plane at from to)) h e is)
          by_like h is (opposite e) = inr (is_at_least (flipped (reduced (outward_plane at from to))) h e is)

-- ---- over the whole points near a point

module _ (o u : ℤ) (some : pos 0 <ℤ u) (Has : ℤ → Plane → Type 0) (each : (q : ℤ) → Listed (Has q)) where
  listed_either_way : Listed (λ h. (q : ℤ) × IsRoundedEitherWay o u q × Has q h)
  listed_either_way = listed_alike (λ h. Has low.0 h ⊎ Has high.0 h) (λ h. (q : ℤ) × IsRoundedEitherWay o u q × Has q h)
      (λ h. (
        (λ e. ⊎_elim (λ has. (low.0, inl low.1, has)) (λ has. (high.0, inr high.1, has)) e),
        (λ has. ⊎_elim (λ d. inl (subst (λ q. Has q h) (one_floor o u has.0 low.0 some d low.1) has.2)) (λ d. inr (subst (λ q. Has q h) (one_up o u has.0 high.0 some d high.1) has.2)) has.1),
      ))
      (listed_either (Has low.0) (Has high.0) (each low.0) (each high.0))
    where
      low : (q : ℤ) × IsRoundedDown o u q
      low = down o u some

      high : (q : ℤ) × IsRoundedUp o u q
      high = up o u some

abbrev whole : ℤ → ℤ → ℤ → Point
whole x y z = record { x = x; y = y; z = z; w = pos 1 }

listed_around : (p : Point) (Has : Point → Plane → Type 0) → pos 0 <ℤ p.w → ((x y z : ℤ) → Listed (Has (whole x y z))) → Listed (λ h. (at : Point) × IsAround p at × Has at h)
listed_around p Has some each =
    listed_alike (λ h. (x : ℤ) × IsRoundedEitherWay p.x p.w x × ((y : ℤ) × IsRoundedEitherWay p.y p.w y × ((z : ℤ) × IsRoundedEitherWay p.z p.w z × Has (whole x y z) h))) (λ h. (at : Point) × IsAround p at × Has at h)
    (λ h. (
      (λ e. (whole e.0 e.2.0 e.2.2.0, record { x = e.1; y = e.2.1; z = e.2.2.1; weight = refl }, e.2.2.2)),
      (λ has. let at = has.0 in let is = has.1 in (at.x, is.x, (at.y, is.y, (at.z, is.z, subst (λ q. Has q h) (same_point at (whole at.x at.y at.z) refl refl refl is.weight) has.2)))),
    ))
    (listed_either_way p.x p.w some (λ x h. (y : ℤ) × IsRoundedEitherWay p.y p.w y × ((z : ℤ) × IsRoundedEitherWay p.z p.w z × Has (whole x y z) h)) (λ x.
    listed_either_way p.y p.w some (λ y h. (z : ℤ) × IsRoundedEitherWay p.z p.w z × Has (whole x y z) h) (λ y.
    listed_either_way p.z p.w some (λ z h. Has (whole x y z) h) (λ z. each x y z))))

listed_nearest : (p : Point) (Has : Point → Plane → Type 0) → pos 0 <ℤ p.w → ((n : Point) → n.w ≡ pos 1 → Listed (Has n)) → Listed (λ h. (n : Point) × IsNearestPoint p n × Has n h)
listed_nearest p Has some each =
    let n = nearest_point p some in
    listed_alike (Has n.0) (λ h. (n : Point) × IsNearestPoint p n × Has n h)
    (λ h. ((λ has. (n.0, n.1, has)), (λ has. subst (λ q. Has q h) (nearest_alone p has.0 n.0 some has.1 n.1) has.2)))
    (each n.0 n.1.weight)

-- ---- across two windings

module _ (e o s : Winding) (e_convex : IsConvex e) (o_convex : IsConvex o) (s_convex : IsConvex s) where
  abbrev next : ℕ → ℕ
  next i = next_place (length e.edges) i

  -- by the places of the edge and of the corner
  abbrev IsAcrossAt : ℕ → ℕ → Plane → Type 0
  IsAcrossAt i k h = (from : Point) × IsNearestPoint (corner_at e i) from × ((to : Point) × IsNearestPoint (corner_at e (next i)) to × ((at : Point) × IsAround (corner_at o k) at × (HasNormalOf at from to h × IsLeastFor (corners s) h)))

  weights : (i : ℕ) (d : Point) → i < length (corners s) → pos 0 <ℤ (get_or (corners s) i d).w
  weights i d h = let n = corners_length s in let below : i < length s.edges = omega arith in subst (λ (p : Point). pos 0 <ℤ p.w) (sym (corner_in_list s i d below)) (s_convex.weight i below)

  listed_at : (i k : ℕ) → i < length e.edges → k < length o.edges → Listed (IsAcrossAt i k)
  listed_at i k i_in k_in =
      listed_nearest (corner_at e i) (λ from h. (to : Point) × IsNearestPoint (corner_at e (next i)) to × ((at : Point) × IsAround (corner_at o k) at × (HasNormalOf at from to h × IsLeastFor (corners s) h))) (e_convex.weight i i_in) (λ from weight.
      listed_nearest (corner_at e (next i)) (λ to h. (at : Point) × IsAround (corner_at o k) at × (HasNormalOf at from to h × IsLeastFor (corners s) h)) (e_convex.weight (next i) (next_below (length e.edges) i i_in)) (λ to to_weight.
      listed_around (corner_at o k) (λ at h. HasNormalOf at from to h × IsLeastFor (corners s) h) (o_convex.weight k k_in) (λ x y z.
      listed_of_points (corners s) (let n = corners_length s in let enough = s_convex.enough in omega arith) weights (whole x y z) from to weight)))

  listed_across : Listed (λ h. HasNormalAcross (corners e) (corners o) h × IsLeastFor (corners s) h)
  listed_across = listed_alike (λ h. (i : ℕ) × (i < length e.edges) × ((k : ℕ) × (k < length o.edges) × IsAcrossAt i k h)) (λ h. HasNormalAcross (corners e) (corners o) h × IsLeastFor (corners s) h)
      (λ h. (forth h, back h))
      (listed_below (length e.edges) (λ i h. (k : ℕ) × (k < length o.edges) × IsAcrossAt i k h) (λ i i_in. listed_below (length o.edges) (λ k h. IsAcrossAt i k h) (λ k k_in. listed_at i k i_in k_in)))
    where
      forth : (h : Plane) → ((i : ℕ) × (i < length e.edges) × ((k : ℕ) × (k < length o.edges) × IsAcrossAt i k h)) → HasNormalAcross (corners e) (corners o) h × IsLeastFor (corners s) h
      forth h (i, i_in, (k, k_in, (from, from_is, (to, to_is, (at, at_is, (normal, least)))))) = (
        record {
          place = i;
          first = corner_at e i;
          second = corner_at e (next i);
          corner = corner_at o k;
          first_is = slice_of_corner e i i_in;
          second_is = ap (λ (n : ℕ). slice_get (corners e) (next_place n i)) (corners_length e) ∙ slice_of_corner e (next i) (next_below (length e.edges) i i_in);
          corner_is = contains_corner o k k_in;
          from = from;
          to = to;
          at = at;
          from_is = from_is;
          to_is = to_is;
          at_is = at_is;
          normal = normal;
        },
        least,
      )

      back : (h : Plane) → HasNormalAcross (corners e) (corners o) h × IsLeastFor (corners s) h → (i : ℕ) × (i < length e.edges) × ((k : ℕ) × (k < length o.edges) × IsAcrossAt i k h)
      back h (is, least) =
          let one = corner_of_slice e is.place is.first is.first_is in
          let two = corner_of_slice e (next_place (length (corners e)) is.place) is.second is.second_is in
          let three = corner_of_contains o is.corner is.corner_is in
          let second : is.second ≡ corner_at e (next is.place) = two.1 ∙ ap (λ (n : ℕ). corner_at e (next_place n is.place)) (corners_length e) in
          (is.place, one.0, (three.0, three.1, (is.from, subst (λ (p : Point). IsNearestPoint p is.from) one.1 is.from_is, (is.to, subst (λ (p : Point). IsNearestPoint p is.to) second is.to_is, (is.at, subst (λ (p : Point). IsAround p is.at) three.2 is.at_is, (is.normal, least))))))

-- ---- the separators

none_behind_or_some : (v : Winding) (h : Plane) → HasNoCornerBehind v h ⊎ HasCornerBehind v h
none_behind_or_some v h = by_corner_in_front v (flipped h)
    (λ some. inr (some.0, some.1, (flipped_in_front h (corner_at v some.0)).0 some.2))
    (λ none. inl (λ i l. by_least (value h (corner_at v i)) (pos 0) (λ below. absurd (let f = (flipped_in_front h (corner_at v i)).1 below in let n = none i l in omega (arith, linear))) (λ not. not)))

none_behind_decided : (v : Winding) (h : Plane) → HasNoCornerBehind v h ⊎ (HasNoCornerBehind v h → ⊥)
none_behind_decided v h = ⊎_elim inl (λ some. inr (λ none. let n = none some.0 some.1 in let b = some.2 in omega (arith, linear))) (none_behind_or_some v h)

strict_decided : (s p : Winding) (h : Plane) → (HasCornerBehind s h ⊎ HasCornerInFront p h) ⊎ (HasCornerBehind s h ⊎ HasCornerInFront p h → ⊥)
strict_decided s p h = ⊎_elim
    (λ none. by_corner_in_front p h
    (λ some. inl (inr some))
    (λ none_front. inr (λ e. ⊎_elim (λ b. let n = none b.0 b.1 in let l = b.2 in absurd (omega (arith, linear))) (λ f. let n = none_front f.0 f.1 in let l = f.2 in absurd (omega (arith, linear))) e)))
    (λ some. inl (inl some))
    (none_behind_or_some s h)

small_decided : (h : Plane) → HasSmallNormal h ⊎ (HasSmallNormal h → ⊥)
small_decided h = by_normal_size h inl (λ large. inr (large_not_small h large))

pub listed_separators : (s p : Winding) → IsConvex s → IsConvex p → Listed (IsSeparator s p)
listed_separators s p s_convex p_convex = listed_alike Found (IsSeparator s p)
    (λ h. (
      (λ is. record { across = ⊎_elim (λ c. inl c.0) (λ c. inr c.0) is.0.0.0; touches = ⊎_elim (λ c. c.1) (λ c. c.1) is.0.0.0; in_front = is.0.0.1; strict = is.0.1; small = is.1 }),
      (λ is. (((⊎_elim (λ c. inl (c, is.touches)) (λ c. inr (c, is.touches)) is.across, is.in_front), is.strict), is.small)),
    ))
    (listed_where Strict HasSmallNormal
    (listed_where (λ h. IsAcrossBoth h × HasNoCornerBehind p h) (λ h. HasCornerBehind s h ⊎ HasCornerInFront p h)
    (listed_where IsAcrossBoth (HasNoCornerBehind p) (listed_either (λ h. HasNormalAcross (corners s) (corners p) h × IsLeastFor (corners s) h) (λ h. HasNormalAcross (corners p) (corners s) h × IsLeastFor (corners s) h) (listed_across s p s s_convex p_convex s_convex) (listed_across p s s p_convex s_convex s_convex)) (none_behind_decided p))
    (strict_decided s p))
    small_decided)
  where
    IsAcrossBoth : Plane → Type 0
    IsAcrossBoth h = (HasNormalAcross (corners s) (corners p) h × IsLeastFor (corners s) h) ⊎ (HasNormalAcross (corners p) (corners s) h × IsLeastFor (corners s) h)

    Strict : Plane → Type 0
    Strict h = (IsAcrossBoth h × HasNoCornerBehind p h) × (HasCornerBehind s h ⊎ HasCornerInFront p h)

    Found : Plane → Type 0
    Found h = Strict h × HasSmallNormal h

pub listed_from_pass : (pass : Option Winding) (v : Winding) → IsConvexPass pass → IsConvex v → Listed (IsSeparatorFrom pass v)
listed_from_pass None v pass_convex convex = listed_none (IsSeparatorFrom None v) (λ h is. is)
listed_from_pass (Some p) v pass_convex convex = listed_separators v p convex pass_convex
