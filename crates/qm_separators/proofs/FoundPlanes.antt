-- Separators as they are found: along a normal, and through three whole points.
use Rattle.std.proofs.Common.{◌≡◌, ℕ, Bool, true, false, ℤ, pos, List, [], ◌∷◌, ◌++◌, Contains, length, slice_get, neg_ℤ, ap, sym, subst, ◌∙◌, refl, arith, ◌⊎◌, inl, inr, ⊎_elim, ◌↔◌}
use Rattle.qm_numbers.proofs.IntegerProducts.{linear, *ℤ_zero}
use Rattle.qm_numbers.proofs.Signs.{zero_beside_positive}
use Rattle.qm_space.specs.Point.{Point, point_times}
use Rattle.qm_separators.proofs.Comparisons.{neg-*ℤ-neg}
use Rattle.qm_space.specs.Plane.{Plane, value, IsOn, flipped, scaled}
use Rattle.qm_space.specs.Vector.{normal_of}
use Rattle.qm_space.specs.Turned.{turned}
use Rattle.qm_space.specs.Line.{AreOnOneLine}
use Rattle.qm_space.specs.Reduced.{HasSmallNormal, IsReduced}
use Rattle.qm_space.specs.ThreePoints.{outward_plane, IsPlaneThrough, IsPlaneTooFine}
use Rattle.qm_space.proofs.Planes.{same_point, value_scaled}
use Rattle.qm_space.proofs.TurnedPlanes.{turned_on}
use Rattle.qm_space.proofs.ReducedPlanes.{same_plane, flipped_twice}
use Rattle.qm_space.proofs.Lines.{weights_of_ones}
use Rattle.qm_space.proofs.PlanesThroughPoints.{one_line_no_normal, normal_off_line}
use Rattle.qm_space.proofs.SpannedPlanes.{spanned_whole}
use Rattle.qm_space.proofs.NormalSizes.{turned_small}
use Rattle.qm_space.specs.LeastDistance.{IsLeastDistance}
use Rattle.qm_convex.specs.Winding.{Winding, corner_at, corners, next_place}
use Rattle.qm_convex.specs.World.{IsInWorld}
use Rattle.qm_convex.proofs.Corners.{corners_length}
use Rattle.qm_convex.proofs.Places.{next_below}
use Rattle.qm_separators.specs.Across.{HasLowestNormal, HasNormalOf, HasNormalAcross}
use Rattle.qm_separators.specs.Separator.{IsSeparator}
use Rattle.qm_separators.specs.Gains.{Gains}
use Rattle.qm_separators.proofs.CornerLists.{slice_of_corner, contains_corner}
use Rattle.qm_separators.proofs.Distances.{distance_alone, distance_size}
use Rattle.qm_separators.proofs.Normals.{divides_distance, normal_alone, normal_wants_points, like_lowest, flipped_lowest_normal}
use Rattle.qm_separators.proofs.OutwardPlanes.{outward_holds_second}
use Rattle.qm_separators.proofs.LargeNormals.{alike_small, none_small}
use Rattle.qm_separators.proofs.ReducedSeparators.{corners_in_cube}
use Rattle.qm_separators.proofs.GainedPlanes.{gains_none, gains_there, gains_one, gains_alike, gains_both}
use Rattle.qm_separators.specs.inner.NormalLike.{HasNormalLike, alike, opposite}
use Rattle.qm_separators.specs.inner.Found.{Parts, PartsAlong, AreOfEdgeAndCorner, AreCandidate, SeparatesBy}

-- ---- along a normal

small_of : (h : Plane) → IsReduced h → HasSmallNormal h
small_of h is = record { x = is.nx_small; y = is.ny_small; z = is.nz_small }

module _ (s p : Winding) (along h : Plane) (normal : normal_of h ≡ normal_of along) (least : IsLeastDistance (along.nx ∷ along.ny ∷ along.nz ∷ []) (corners s) h.d) where
  least_of_it : IsLeastDistance (h.nx ∷ h.ny ∷ h.nz ∷ []) (corners s) h.d
  least_of_it = subst (λ (n : Point). IsLeastDistance (n.x ∷ n.y ∷ n.z ∷ []) (corners s) h.d) (sym normal) least

  -- the plane at the least distance is in lowest terms
  pub along_is_reduced : IsInWorld s → IsReduced along → HasLowestNormal along → IsReduced h
  along_is_reduced world reduced lowest =
      let x = ap (λ (n : Point). n.x) normal in let y = ap (λ (n : Point). n.y) normal in let z = ap (λ (n : Point). n.z) normal in
      let n = corners_length s in let enough = world.convex.enough in
      let low : HasLowestNormal h = subst (λ (n : Point). HasLowestNormal (record { nx = n.x; ny = n.y; nz = n.z; d = h.d })) (sym normal) lowest in
      let small = alike_small h along normal (small_of along reduced) in
      let size = distance_size h (corners s) (omega arith) (corners_in_cube s world) small least_of_it in
      record {
        normal = λ a b c. reduced.normal (sym x ∙ a) (sym y ∙ b) (sym z ∙ c);
        lowest = λ k a b c d. low k a b c;
        nx_small = small.x;
        ny_small = small.y;
        nz_small = small.z;
        d_small = omega arith;
      }

  -- no other plane with the normal is at the least distance
  along_alone : (g : Plane) → PartsAlong s p along g → g ≡ h
  along_alone g is =
      let e = is.normal ∙ sym normal in
      same_plane g h (ap (λ (n : Point). n.x) e) (ap (λ (n : Point). n.y) e) (ap (λ (n : Point). n.z) e)
      (distance_alone (h.nx ∷ h.ny ∷ h.nz ∷ []) (corners s) g.d h.d (subst (λ (n : Point). IsLeastDistance (n.x ∷ n.y ∷ n.z ∷ []) (corners s) g.d) e is.touches) least_of_it)

  pub gains_along_there : (old : List Plane) → Contains old h → Gains (PartsAlong s p along) old old
  gains_along_there old there = gains_there (PartsAlong s p along) old (λ g is. subst (Contains old) (sym (along_alone g is)) there)

  pub gains_along_none : (old : List Plane) → (Parts s p h → ⊥) → Gains (PartsAlong s p along) old old
  gains_along_none old not = gains_none (PartsAlong s p along) old (λ g is. not (subst (Parts s p) (along_alone g is) is.parts))

  pub gains_along_one : (old : List Plane) → (Contains old h → ⊥) → Parts s p h → Gains (PartsAlong s p along) old (old ++ h ∷ [])
  gains_along_one old new parts = gains_alike (λ g. g ≡ h) (PartsAlong s p along) old (old ++ h ∷ [])
      (λ g. ((λ e. subst (PartsAlong s p along) (sym e) (record { normal = normal; touches = least_of_it; parts = parts })), along_alone g))
      (gains_one old h new)

-- ---- through three whole points

multiple_normal : (out g : Plane) (k : ℤ) → out ≡ scaled k g → normal_of out ≡ point_times k (normal_of g)
multiple_normal out g k e = ap normal_of e ∙ same_point (normal_of (scaled k g)) (point_times k (normal_of g)) refl refl refl (sym (*ℤ_zero k))

-- what has the normal of a plane, or the opposite one, has the normal of the points
normal_too : (at from to : Point) (g h : Plane) → HasNormalOf at from to g → HasNormalLike h g → HasNormalOf at from to h
normal_too at from to g h is (alike e) = record { factor = is.factor; some_factor = is.some_factor; multiple = is.multiple ∙ ap (point_times is.factor) (sym e); lowest = like_lowest h g e is.lowest }
normal_too at from to g h is (opposite e) = record {
  factor = neg_ℤ is.factor;
  some_factor = λ z. is.some_factor (omega (arith, linear));
  multiple = is.multiple ∙ both is.factor g ∙ ap (point_times (neg_ℤ is.factor)) (sym e);
  lowest = like_lowest h (flipped g) e (flipped_lowest_normal g is.lowest);
}
  where
    both : (k : ℤ) (g : Plane) → point_times k (normal_of g) ≡ point_times (neg_ℤ k) (normal_of (flipped g))
    both k g = same_point (point_times k (normal_of g)) (point_times (neg_ℤ k) (normal_of (flipped g))) (sym (neg-*ℤ-neg k g.nx)) (sym (neg-*ℤ-neg k g.ny)) (sym (neg-*ℤ-neg k g.nz)) (*ℤ_zero k ∙ sym (*ℤ_zero (neg_ℤ k)))

module _ (at from to : Point) (from_weight : from.w ≡ pos 1) where
  module _ (plane : Plane) (flag : Bool) (is : IsPlaneThrough at from to plane flag) where
    pub whole_multiple : outward_plane at from to ≡ scaled is.multiple.factor (turned flag plane)
    whole_multiple = sym (spanned_whole at from to from_weight) ∙ is.multiple.multiple

    holds : IsOn plane from
    holds =
        let e = ap (λ (h : Plane). value h from) whole_multiple ∙ value_scaled is.multiple.factor (turned flag plane) from in
        let f = outward_holds_second at from to from_weight in
        (turned_on flag plane from).0 (zero_beside_positive is.multiple.factor (value (turned flag plane) from) is.multiple.positive (sym e ∙ f))

    pub through_lowest : HasLowestNormal plane
    through_lowest k x y z = is.is_reduced.lowest k x y z (divides_distance k plane from from_weight holds x y z)

    pub through_lowest_flipped : HasLowestNormal (flipped plane)
    through_lowest_flipped = flipped_lowest_normal plane through_lowest

    turned_lowest : (side : Bool) → HasLowestNormal (turned side plane)
    turned_lowest true = through_lowest
    turned_lowest false = through_lowest_flipped

    its_normal : HasNormalOf at from to (turned flag plane)
    its_normal = record {
      factor = is.multiple.factor;
      some_factor = λ z. let l = is.multiple.positive in absurd (omega (arith, linear));
      multiple = multiple_normal (outward_plane at from to) (turned flag plane) is.multiple.factor whole_multiple;
      lowest = turned_lowest flag;
    }

    back : (side : Bool) (h : Plane) → HasNormalLike h (turned side plane) → HasNormalLike h plane
    back true h like = like
    back false h (alike e) = opposite e
    back false h (opposite e) = alike (e ∙ ap normal_of (flipped_twice plane))

    forth : (side : Bool) (h : Plane) → HasNormalLike h plane → HasNormalLike h (turned side plane)
    forth true h like = like
    forth false h (alike e) = opposite (e ∙ sym (ap normal_of (flipped_twice plane)))
    forth false h (opposite e) = alike e

    -- it and the same plane flipped over have all normals of the points
    pub through_like : (h : Plane) → HasNormalOf at from to h ↔ HasNormalLike h plane
    through_like h = ((λ has. back flag h (normal_alone at from to h (turned flag plane) has its_normal)), (λ like. normal_too at from to (turned flag plane) h its_normal (forth flag h like)))

-- ---- of an edge and a corner

pub of_both : (e o : Winding) (at from to : Point) (h : Plane) → AreOfEdgeAndCorner e o at from to → HasNormalOf at from to h → HasNormalAcross (corners e) (corners o) h
of_both e o at from to h are normal =
    let next = next_place (length e.edges) are.place in
    record {
      place = are.place;
      first = corner_at e are.place;
      second = corner_at e next;
      corner = corner_at o are.corner;
      first_is = slice_of_corner e are.place are.place_in;
      second_is = ap (λ (n : ℕ). slice_get (corners e) (next_place n are.place)) (corners_length e) ∙ slice_of_corner e next (next_below (length e.edges) are.place are.place_in);
      corner_is = contains_corner o are.corner are.corner_in;
      from = from;
      to = to;
      at = at;
      from_is = are.from_is;
      to_is = are.to_is;
      at_is = are.at_is;
      normal = normal;
    }

module _ (s p : Winding) (at from to : Point) (candidate : AreCandidate s p at from to) where
  candidate_across : (h : Plane) → HasNormalOf at from to h → HasNormalAcross (corners s) (corners p) h ⊎ HasNormalAcross (corners p) (corners s) h
  candidate_across h normal = ⊎_elim (λ are. inl (of_both s p at from to h are normal)) (λ are. inr (of_both p s at from to h are normal)) candidate

  from_weight : from.w ≡ pos 1
  from_weight = ⊎_elim (λ are. are.from_is.weight) (λ are. are.from_is.weight) candidate

  along_separates : (along h : Plane) → HasSmallNormal along → PartsAlong s p along h → HasNormalOf at from to h → SeparatesBy s p at from to h
  along_separates along h small is normal = (
    record {
      across = candidate_across h normal;
      touches = is.touches;
      in_front = is.parts.in_front;
      strict = is.parts.strict;
      small = alike_small h along is.normal small;
    },
    normal,
  )

  parts_along : (along h : Plane) → normal_of h ≡ normal_of along → IsSeparator s p h → PartsAlong s p along h
  parts_along along h e sep = record { normal = e; touches = sep.touches; parts = record { in_front = sep.in_front; strict = sep.strict } }

  module _ (plane : Plane) (flag : Bool) (is : IsPlaneThrough at from to plane flag) where
    by_like : (h : Plane) → IsSeparator s p h → HasNormalLike h plane → PartsAlong s p plane h ⊎ PartsAlong s p (flipped plane) h
    by_like h sep (alike e) = inl (parts_along plane h e sep)
    by_like h sep (opposite e) = inr (parts_along (flipped plane) h e sep)

    pub gains_through : (old mid new : List Plane) → Gains (PartsAlong s p plane) old mid → Gains (PartsAlong s p (flipped plane)) mid new → Gains (SeparatesBy s p at from to) old new
    gains_through old mid new first second = gains_alike (λ h. PartsAlong s p plane h ⊎ PartsAlong s p (flipped plane) h) (SeparatesBy s p at from to) old new
        (λ h. (
          (λ either. ⊎_elim
              (λ a. along_separates plane h (small_of plane is.is_reduced) a ((through_like at from to from_weight plane flag is h).1 (alike a.normal)))
              (λ a. along_separates (flipped plane) h (turned_small false plane (small_of plane is.is_reduced)) a ((through_like at from to from_weight plane flag is h).1 (opposite a.normal)))
              either),
          (λ sep. by_like h sep.0 ((through_like at from to from_weight plane flag is h).0 sep.1)),
        ))
        (gains_both (PartsAlong s p plane) (PartsAlong s p (flipped plane)) old mid new first second)

  -- points on one line give none
  pub gains_on_line : at.w ≡ pos 1 → to.w ≡ pos 1 → AreOnOneLine at from to → (old : List Plane) → Gains (SeparatesBy s p at from to) old old
  gains_on_line at_weight to_weight line old =
      let no = one_line_no_normal at from to (weights_of_ones at from to at_weight from_weight to_weight) line in
      gains_none (SeparatesBy s p at from to) old (λ h sep. normal_wants_points at from to h sep.1 no.0 no.1 no.2)

  -- nor do those whose plane is too fine
  pub gains_too_fine : at.w ≡ pos 1 → to.w ≡ pos 1 → IsPlaneTooFine at from to → (old : List Plane) → Gains (SeparatesBy s p at from to) old old
  gains_too_fine at_weight to_weight fine old =
      let normal = normal_off_line at from to (weights_of_ones at from to at_weight from_weight to_weight) fine.apart in
      gains_none (SeparatesBy s p at from to) old (λ h sep. none_small at from to from_weight normal fine.large h sep.1 sep.0.small)
