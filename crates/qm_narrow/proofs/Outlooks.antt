-- What a look at a normal rests on: where it refuses a normal, no separator has it.
use Rattle.std.proofs.Common.{◌≡◌, ℕ, ◌<◌, true, false, not, ℤ, pos, neg_ℤ, ◌+ℤ◌, ◌-ℤ◌, ◌*ℤ◌, ◌<ℤ◌, ◌≤ℤ◌, List, [], ◌∷◌, Contains, length, refl, ap, sym, subst, ◌∙◌, IsTrue, ◌↔◌, arith, ◌⊎◌, ⊎_elim}
use Rattle.std.specs.Int.{int_max, int_min}
use Rattle.std.proofs.lemmas.Int.{ints, clamps}
use Rattle.std.proofs.Math.IntN.{*ℤ_comm}
use Rattle.qm_numbers.proofs.IntegerProducts.{linear, +ℤ-*ℤ, -ℤ-*ℤ, neg-*ℤ, *ℤ_zero}
use Rattle.qm_numbers.proofs.Signs.{by_sign, cancel_at_most, times_at_most, product_positive, product_not_negative, product_not_positive}
use Rattle.qm_numbers.proofs.Ring.{variable, ◌⊕◌, ◌⊖◌, ◌⊗◌, solved}
use Rattle.qm_space.specs.Point.{Point, point_times}
use Rattle.qm_space.specs.Plane.{Plane, value, IsBehind, IsInFront, IsNotInFront, IsNotBehind, flipped}
use Rattle.qm_space.specs.Vector.{normal_of}
use Rattle.qm_space.specs.Cuboid.{IsInStretch, least_product, greatest_product}
use Rattle.qm_space.specs.ThreePoints.{outward_plane}
use Rattle.qm_space.proofs.Planes.{same_point}
use Rattle.qm_space.proofs.Cuboids.{least_product_bound, greatest_product_bound}
use Rattle.qm_convex.specs.Winding.{Winding, corner_at, IsConvex}
use Rattle.qm_convex.specs.Sides.{HasNoCornerInFront, HasNoCornerBehind}
use Rattle.qm_convex.proofs.Corners.{corners_length, corner_in_list}
use Rattle.qm_separators.specs.Gains.{Gains}
use Rattle.qm_separators.specs.inner.Found.{PartsAlong, SeparatesBy}
use Rattle.qm_separators.proofs.Comparisons.{neg-*ℤ-neg}
use Rattle.qm_separators.proofs.GainedPlanes.{gains_there}
use Rattle.qm_separators.proofs.Normals.{like_lowest, flipped_lowest_normal}
use Rattle.qm_separators.specs.Across.{HasLowestNormal}
use Rattle.qm_narrow.specs.inner.Lowest.{IsLowestOf}
use Rattle.qm_narrow.specs.inner.FoundPlanes.{AreAtLeastDistance, HasAlongAmong, HasAgainstAmong}
use Rattle.qm_narrow.proofs.ListedNormals.{listed_along}
use Rattle.qm_narrow.proofs.ParallelNormals.{same_normal}
use Rattle.qm_geom.specs.Vectors.{direction_of, normal_vector as own_normal}
use Rattle.qm_geom.specs.declared.vector.Vector.{Vector}
use Rattle.qm_narrow.specs.declared.reach.Reach.{Reach}
use Rattle.qm_narrow.specs.declared.outlook.Outlook.{Outlook}
use Rattle.qm_narrow.specs.declared.spot.Spot.{Spot}
use Rattle.qm_narrow.specs.inner.Trace.{IsSpotOf, IsFixed}
use Rattle.qm_narrow.specs.inner.Look.{at_distance, stretch_of, least_between, least_along, greatest_along, IsReach, PartsNowhere}

-- ---- one corner

module _ (n : Vector) (p : Point) (spot : Spot) (weight : pos 0 <ℤ p.w) (is : IsSpotOf p spot) where
  in_x : IsInStretch (stretch_of spot 0) p.x p.w
  in_x = record { above = is.below.of_x.at_most; below = is.above.of_x.at_least }

  in_y : IsInStretch (stretch_of spot 1) p.y p.w
  in_y = record { above = is.below.of_y.at_most; below = is.above.of_y.at_least }

  in_z : IsInStretch (stretch_of spot 2) p.z p.w
  in_z = record { above = is.below.of_z.at_most; below = is.above.of_z.at_least }

  abbrev total : ℤ
  total = ((n.x *ℤ p.x) +ℤ (n.y *ℤ p.y)) +ℤ (n.z *ℤ p.z)

  value_is : (d : ℤ) → value (at_distance n d) p ≡ total -ℤ (d *ℤ p.w)
  unfolding value
  value_is d = refl

  least_bound : (least_along n spot *ℤ p.w) ≤ℤ total
  unfolding least_between
  least_bound =
      let a = least_product n.x (stretch_of spot 0) in let b = least_product n.y (stretch_of spot 1) in let c = least_product n.z (stretch_of spot 2) in
      let e = +ℤ-*ℤ (a +ℤ b) c p.w in let f = +ℤ-*ℤ a b p.w in
      let x = least_product_bound n.x (stretch_of spot 0) p.x p.w in_x in
      let y = least_product_bound n.y (stretch_of spot 1) p.y p.w in_y in
      let z = least_product_bound n.z (stretch_of spot 2) p.z p.w in_z in
      omega (arith, linear)

  greatest_bound : total ≤ℤ (greatest_along n spot *ℤ p.w)
  unfolding greatest_along
  greatest_bound =
      let a = greatest_product n.x (stretch_of spot 0) in let b = greatest_product n.y (stretch_of spot 1) in let c = greatest_product n.z (stretch_of spot 2) in
      let e = +ℤ-*ℤ (a +ℤ b) c p.w in let f = +ℤ-*ℤ a b p.w in
      let x = greatest_product_bound n.x (stretch_of spot 0) p.x p.w in_x in
      let y = greatest_product_bound n.y (stretch_of spot 1) p.y p.w in_y in
      let z = greatest_product_bound n.z (stretch_of spot 2) p.z p.w in_z in
      omega (arith, linear)

  least_not_in_front : (d : ℤ) → IsNotInFront (at_distance n d) p → least_along n spot ≤ℤ d
  least_not_in_front d not =
      let e = value_is d in let l = least_bound in
      let f = *ℤ_comm p.w (least_along n spot) in let g = *ℤ_comm p.w d in
      cancel_at_most p.w (least_along n spot) d weight (omega (arith, linear))

  greatest_not_behind : (d : ℤ) → IsNotBehind (at_distance n d) p → d ≤ℤ greatest_along n spot
  greatest_not_behind d not =
      let e = value_is d in let l = greatest_bound in
      let f = *ℤ_comm p.w (greatest_along n spot) in let g = *ℤ_comm p.w d in
      cancel_at_most p.w d (greatest_along n spot) weight (omega (arith, linear))

  -- past the greatest along it the point is behind, and up to the least it is not
  pub greatest_behind : (d : ℤ) → greatest_along n spot <ℤ d → IsBehind (at_distance n d) p
  greatest_behind d l =
      let e = value_is d in let b = greatest_bound in
      let f = -ℤ-*ℤ d (greatest_along n spot) p.w in
      let m = product_positive (d -ℤ greatest_along n spot) p.w (omega (arith, linear)) weight in
      omega (arith, linear)

  pub least_not_behind : (d : ℤ) → d ≤ℤ least_along n spot → IsNotBehind (at_distance n d) p
  least_not_behind d l =
      let e = value_is d in let b = least_bound in
      let f = -ℤ-*ℤ (least_along n spot) d p.w in
      let m = product_not_negative (least_along n spot -ℤ d) p.w (omega (arith, linear)) (omega (arith, linear)) in
      omega (arith, linear)

  -- from the greatest along it on, the point is not in front
  pub greatest_not_in_front : (d : ℤ) → greatest_along n spot ≤ℤ d → IsNotInFront (at_distance n d) p
  greatest_not_in_front d l =
      let e = value_is d in let b = greatest_bound in
      let f = *ℤ_comm p.w (greatest_along n spot) in let g = *ℤ_comm p.w d in
      let m = times_at_most p.w (greatest_along n spot) d (omega (arith, linear)) l in
      omega (arith, linear)

  -- below the least along it, the point is in front
  pub least_in_front : (d : ℤ) → d <ℤ least_along n spot → IsInFront (at_distance n d) p
  least_in_front d l =
      let e = value_is d in let b = least_bound in
      let f = -ℤ-*ℤ (least_along n spot) d p.w in
      let m = product_positive (least_along n spot -ℤ d) p.w (omega (arith, linear)) weight in
      omega (arith, linear)

-- where the corner is a whole point, it has the same least and greatest along it
alike : (n low high : ℤ) → low ≡ high → greatest_product n (record { low = low; high = high }) ≡ least_product n (record { low = low; high = high })
unfolding greatest_product least_product
alike n low high e = subst (λ (h : ℤ). greatest_product n (record { low = low; high = h }) ≡ least_product n (record { low = low; high = h })) e refl

pub fixed_greatest : (n : Vector) (spot : Spot) → IsFixed spot → least_along n spot ≡ greatest_along n spot
unfolding least_between greatest_along
fixed_greatest n spot is = λ i. (sym (alike n.x _ _ is.x) i +ℤ sym (alike n.y _ _ is.y) i) +ℤ sym (alike n.z _ _ is.z) i

-- where a corner lies beside a plane, by the whole points near it
module _ (h : Plane) (n : Vector) (same : n ≡ own_normal h) (p : Point) (weight : pos 0 <ℤ p.w) (spot : Spot) (is : IsSpotOf p spot) where
  pub behind_by : greatest_along n spot <ℤ h.d → IsTrue true ↔ IsBehind h p
  behind_by less = ((λ _. subst (λ (m : Vector). IsBehind (at_distance m h.d) p) same (greatest_behind n p spot weight is h.d less)), (λ _. refl))

  pub not_behind_by : h.d ≤ℤ least_along n spot → IsTrue false ↔ IsBehind h p
  not_behind_by at_most =
      let not : IsNotBehind h p = subst (λ (m : Vector). IsNotBehind (at_distance m h.d) p) same (least_not_behind n p spot weight is h.d at_most) in
      ((λ told. let never : false ≡ true = told in cc), (λ behind. absurd (omega (arith, linear))))

  pub ahead_by : h.d <ℤ least_along n spot → IsTrue true ↔ IsInFront h p
  ahead_by more = ((λ _. subst (λ (m : Vector). IsInFront (at_distance m h.d) p) same (least_in_front n p spot weight is h.d more)), (λ _. refl))

  pub not_ahead_by : greatest_along n spot ≤ℤ h.d → IsTrue false ↔ IsInFront h p
  not_ahead_by at_most =
      let not : IsNotInFront h p = subst (λ (m : Vector). IsNotInFront (at_distance m h.d) p) same (greatest_not_in_front n p spot weight is h.d at_most) in
      ((λ told. let never : false ≡ true = told in cc), (λ front. absurd (omega (arith, linear))))

-- ---- all corners, one after another

max_at_most : (a b d : ℤ) → a ≤ℤ d → b ≤ℤ d → int_max a b ≤ℤ d
max_at_most a b d h k = omega (arith, ints, clamps)

min_at_least : (a b d : ℤ) → d ≤ℤ a → d ≤ℤ b → d ≤ℤ int_min a b
min_at_least a b d h k = omega (arith, ints, clamps)

module _ (v : Winding) (convex : IsConvex v) (n : Vector) (i : ℕ) (within : i < length v.edges) (spot : Spot) (is : IsSpotOf (corner_at v i) spot) where
  corner_low : (d : ℤ) → HasNoCornerInFront v (at_distance n d) → least_along n spot ≤ℤ d
  corner_low d none = least_not_in_front n (corner_at v i) spot (convex.weight i within) is d (none i within)

  corner_high : (d : ℤ) → HasNoCornerBehind v (at_distance n d) → d ≤ℤ greatest_along n spot
  corner_high d none = greatest_not_behind n (corner_at v i) spot (convex.weight i within) is d (none i within)

  pub reach_begins : (reach : Reach) → reach.low ≡ least_along n spot → reach.high ≡ greatest_along n spot → IsReach v n reach
  reach_begins reach low high = record {
    low = λ d none. subst (λ (z : ℤ). z ≤ℤ d) (sym low) (corner_low d none);
    high = λ d none. subst (λ (z : ℤ). d ≤ℤ z) (sym high) (corner_high d none);
  }

  pub reach_more : (old new : Reach) → IsReach v n old → new.low ≡ int_max old.low (least_along n spot) → new.high ≡ int_min old.high (greatest_along n spot) → IsReach v n new
  reach_more old new of_old low high = record {
    low = λ d none. subst (λ (z : ℤ). z ≤ℤ d) (sym low) (max_at_most old.low (least_along n spot) d (of_old.low d none) (corner_low d none));
    high = λ d none. subst (λ (z : ℤ). d ≤ℤ z) (sym high) (min_at_least old.high (greatest_along n spot) d (of_old.high d none) (corner_high d none));
  }

-- ---- a multiple of a plane's normal

module _ (n : Vector) (h : Plane) (k : ℤ) (multiple : direction_of n ≡ point_times k (normal_of h)) where
  value_multiple : (p : Point) → value (at_distance n (k *ℤ h.d)) p ≡ k *ℤ value h p
  unfolding value
  value_multiple p =
      ap (λ (q : Point). (((q.x *ℤ p.x) +ℤ (q.y *ℤ p.y)) +ℤ (q.z *ℤ p.z)) -ℤ ((k *ℤ h.d) *ℤ p.w)) multiple
      ∙ (let t = variable in
      solved (k ∷ h.nx ∷ h.ny ∷ h.nz ∷ h.d ∷ p.x ∷ p.y ∷ p.z ∷ p.w ∷ [])
      ((((t 0 ⊗ t 1) ⊗ t 5 ⊕ (t 0 ⊗ t 2) ⊗ t 6) ⊕ (t 0 ⊗ t 3) ⊗ t 7) ⊖ (t 0 ⊗ t 4) ⊗ t 8)
      (t 0 ⊗ (((t 1 ⊗ t 5 ⊕ t 2 ⊗ t 6) ⊕ t 3 ⊗ t 7) ⊖ t 4 ⊗ t 8)) tt)

  stays_not_in_front : pos 0 <ℤ k → (p : Point) → IsNotInFront h p → IsNotInFront (at_distance n (k *ℤ h.d)) p
  stays_not_in_front positive p is = let e = value_multiple p in let m = product_not_positive k (value h p) (omega (arith, linear)) is in omega (arith, linear)

  stays_not_behind : pos 0 <ℤ k → (p : Point) → IsNotBehind h p → IsNotBehind (at_distance n (k *ℤ h.d)) p
  stays_not_behind positive p is = let e = value_multiple p in let m = product_not_negative k (value h p) (omega (arith, linear)) is in omega (arith, linear)

  turns_not_behind : k <ℤ pos 0 → (p : Point) → IsNotInFront h p → IsNotBehind (at_distance n (k *ℤ h.d)) p
  turns_not_behind negative p is =
      let e = value_multiple p in let f = neg-*ℤ k (value h p) in
      let m = product_not_positive (neg_ℤ k) (value h p) (omega (arith, linear)) is in omega (arith, linear)

  turns_not_in_front : k <ℤ pos 0 → (p : Point) → IsNotBehind h p → IsNotInFront (at_distance n (k *ℤ h.d)) p
  turns_not_in_front negative p is =
      let e = value_multiple p in let f = neg-*ℤ k (value h p) in
      let m = product_not_negative (neg_ℤ k) (value h p) (omega (arith, linear)) is in omega (arith, linear)

  module _ (s p : Winding) (source : HasNoCornerInFront s h) (pass : HasNoCornerBehind p h) where
    none_ahead : pos 0 <ℤ k → PartsNowhere s p n → ⊥
    none_ahead positive nowhere = nowhere (k *ℤ h.d) (λ i l. stays_not_in_front positive (corner_at s i) (source i l)) (λ i l. stays_not_behind positive (corner_at p i) (pass i l))

    pub none_back : k <ℤ pos 0 → PartsNowhere p s n → ⊥
    none_back negative nowhere = nowhere (k *ℤ h.d) (λ i l. turns_not_in_front negative (corner_at p i) (pass i l)) (λ i l. turns_not_behind negative (corner_at s i) (source i l))

-- ---- what is not gained

-- a plane at the least distance has no corner of the source in front
none_along : (s p : Winding) (along h : Plane) → PartsAlong s p along h → HasNoCornerInFront s h
none_along s p along h is i below =
    let a = is.touches.none_in_front h.d (omega (arith, linear)) i (corner_at s i) (let e = corners_length s in omega arith) in
    subst (λ q. IsNotInFront h q) (corner_in_list s i (corner_at s i) below) a

pub times_back : (k : ℤ) (g : Plane) → point_times k (normal_of g) ≡ point_times (neg_ℤ k) (normal_of (flipped g))
times_back k g = same_point (point_times k (normal_of g)) (point_times (neg_ℤ k) (normal_of (flipped g))) (sym (neg-*ℤ-neg k g.nx)) (sym (neg-*ℤ-neg k g.ny)) (sym (neg-*ℤ-neg k g.nz)) (*ℤ_zero k ∙ sym (*ℤ_zero (neg_ℤ k)))

turned_alike : (g h : Plane) → normal_of (flipped g) ≡ normal_of (flipped h) → normal_of g ≡ normal_of h
turned_alike g h e = same_point (normal_of g) (normal_of h) (back g.nx h.nx (ap (λ (p : Point). p.x) e)) (back g.ny h.ny (ap (λ (p : Point). p.y) e)) (back g.nz h.nz (ap (λ (p : Point). p.z) e)) refl
  where
    back : (a b : ℤ) → neg_ℤ a ≡ neg_ℤ b → a ≡ b
    back a b e = omega (arith, linear)

-- where the look and the list leave a side out, what parts them on this side is listed
module _ (s p : Winding) (at from to : Point) (n : Vector) (through : direction_of n ≡ normal_of (outward_plane at from to)) (planes listed : List Plane) (same : listed ≡ planes) (found : AreAtLeastDistance s planes) (outlook : Outlook) (ahead : outlook.ahead ≡ false → PartsNowhere s p n ⊎ HasAlongAmong listed n) (back : outlook.back ≡ false → PartsNowhere p s n ⊎ HasAgainstAmong listed n) where
  module _ (h : Plane) (lowest : HasLowestNormal h) (parts : PartsAlong s p h h) (k : ℤ) (multiple : direction_of n ≡ point_times k (normal_of h)) where
    there_ahead : pos 0 <ℤ k → outlook.ahead ≡ false → Contains planes h
    there_ahead positive not = ⊎_elim
        (λ nowhere. absurd (none_ahead n h k multiple s p (none_along s p h h parts) parts.parts.in_front positive nowhere))
        (λ among. let there = subst (λ (l : List Plane). Contains l among.0) same among.1 in
        listed_along s p h among.0 h planes found there (same_normal n among.0 (found.lowest among.0 there) among.2 at from to through h lowest k positive multiple) parts)
        (ahead not)

    there_back : k <ℤ pos 0 → outlook.back ≡ false → Contains planes h
    there_back negative not = ⊎_elim
        (λ nowhere. absurd (none_back n h k multiple s p (none_along s p h h parts) parts.parts.in_front negative nowhere))
        (λ among. let there = subst (λ (l : List Plane). Contains l among.0) same among.1 in
        listed_along s p h among.0 h planes found there
        (turned_alike h among.0 (same_normal n (flipped among.0) (flipped_lowest_normal among.0 (found.lowest among.0 there)) among.2 at from to through (flipped h) (flipped_lowest_normal h lowest) (neg_ℤ k) (omega (arith, linear)) (multiple ∙ times_back k h)))
        parts)
        (back not)

  pub gains_nowhere : outlook.ahead ≡ false → outlook.back ≡ false → Gains (SeparatesBy s p at from to) planes planes
  gains_nowhere not_ahead not_back = gains_there (SeparatesBy s p at from to) planes (λ h sep.
      let is = sep.1 in let e = through ∙ is.multiple in
      let parts : PartsAlong s p h h = record { normal = refl; touches = sep.0.touches; parts = record { in_front = sep.0.in_front; strict = sep.0.strict } } in
      by_sign is.factor
      (λ negative. there_back h is.lowest parts is.factor e negative not_back)
      (λ zero. absurd (is.some_factor zero))
      (λ positive. there_ahead h is.lowest parts is.factor e positive not_ahead))

  module _ (plane : Plane) (is : IsLowestOf n plane) where
    pub there_as_it_is : outlook.ahead ≡ false → (h : Plane) → PartsAlong s p plane h → Contains planes h
    there_as_it_is not h parts =
        there_ahead h (like_lowest h plane parts.normal is.lowest) (record { normal = refl; touches = parts.touches; parts = parts.parts }) is.factor
        (is.multiple ∙ ap (point_times is.factor) (sym parts.normal)) is.positive not

    pub there_flipped : outlook.back ≡ false → (h : Plane) → PartsAlong s p (flipped plane) h → Contains planes h
    there_flipped not h parts =
        let positive = is.positive in
        there_back h (like_lowest h (flipped plane) parts.normal (flipped_lowest_normal plane is.lowest)) (record { normal = refl; touches = parts.touches; parts = parts.parts }) (neg_ℤ is.factor)
        (is.multiple ∙ times_back is.factor plane ∙ ap (point_times (neg_ℤ is.factor)) (sym parts.normal)) (omega (arith, linear)) not
