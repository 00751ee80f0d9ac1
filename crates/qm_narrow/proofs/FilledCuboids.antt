-- A winding that has all of its cuboid has corners in front of a plane where the cuboid reaches in front of it.
use Rattle.std.proofs.Common.{◌≡◌, ℕ, ◌+◌, ◌<◌, ℤ, pos, neg_ℤ, ◌+ℤ◌, ◌*ℤ◌, ◌<ℤ◌, ◌≤ℤ◌, unsigned_abs, length, List, cond, int_lt, refl, ap, sym, ◌∙◌, arith, subst, ⊎_elim}
use Rattle.std.proofs.lemmas.Int.{ints}
use Rattle.std.proofs.Math.IntN.{*ℤ_comm}
use Rattle.std.proofs.lemmas.List.Elements.{All-from_get_or, All-contains}
use Rattle.qm_lists.proofs.Pairs.{All-from_contains}
use Rattle.qm_numbers.proofs.IntegerProducts.{linear, *ℤ_zero, *ℤ_one}
use Rattle.qm_numbers.proofs.Signs.{side_test, product_not_negative, times_at_most, cancel_at_most, by_least}
use Rattle.qm_space.specs.Point.{Point, point_sum, point_times}
use Rattle.qm_space.specs.Plane.{Plane, value, IsOn, IsInFront}
use Rattle.qm_space.specs.Cuboid.{Stretch, Cuboid, IsInStretch, IsInCuboid, greatest_product, greatest_value}
use Rattle.qm_space.proofs.Planes.{value_sum, value_times}
use Rattle.qm_convex.specs.Winding.{Winding, edge_at, IsConvex, IsInRegion}
use Rattle.qm_convex.specs.Sides.{HasCornerInFront}
use Rattle.qm_convex.specs.World.{LiesWithin}
use Rattle.qm_convex.proofs.Central.{middle, middle_in_region, some_in_front}
use Rattle.qm_convex.proofs.Within.{none_in_front_by_greatest}
use Rattle.qm_wind.proofs.SidesOfCorners.{none_in_front}
use Rattle.qm_separators.specs.inner.Found.{HasCornersBeyond}
use Rattle.qm_extents.specs.Filled.{HasAllOf}
use Rattle.qm_narrow.specs.inner.Beyond.{ReachesBeyond}

-- ---- the point of a cuboid at which a plane has its greatest value

-- the end of a stretch at which a number has its greatest product
end_of : ℤ → Stretch → ℤ
end_of n s = cond (int_lt n (pos 0)) s.low s.high

greatest_at_end : (n : ℤ) (s : Stretch) → greatest_product n s ≡ n *ℤ end_of n s
unfolding greatest_product end_of
greatest_at_end n s = ⊎_elim
    (λ t. subst (λ b. cond b (n *ℤ s.low) (n *ℤ s.high) ≡ n *ℤ cond b s.low s.high) (sym t.0) refl)
    (λ t. subst (λ b. cond b (n *ℤ s.low) (n *ℤ s.high) ≡ n *ℤ cond b s.low s.high) (sym t.0) refl)
    (side_test n)

end_in : (n : ℤ) (s : Stretch) → s.low ≤ℤ s.high → IsInStretch s (end_of n s) (pos 1)
unfolding end_of
end_in n s ordered =
    let low = *ℤ_one s.low in let high = *ℤ_one s.high in
    ⊎_elim
    (λ t. subst (λ b. IsInStretch s (cond b s.low s.high) (pos 1)) (sym t.0) (record { above = omega (arith, linear, low); below = omega (arith, linear, high, ordered) }))
    (λ t. subst (λ b. IsInStretch s (cond b s.low s.high) (pos 1)) (sym t.0) (record { above = omega (arith, linear, low, ordered); below = omega (arith, linear, high) }))
    (side_test n)

top : Plane → Cuboid → Point
top h c = record { x = end_of h.nx c.x; y = end_of h.ny c.y; z = end_of h.nz c.z; w = pos 1 }

value_top : (h : Plane) (c : Cuboid) → value h (top h c) ≡ greatest_value h c
unfolding value greatest_value top
value_top h c =
    let x = greatest_at_end h.nx c.x in let y = greatest_at_end h.ny c.y in let z = greatest_at_end h.nz c.z in
    let d = *ℤ_one h.d in
    omega (arith, linear)

-- a stretch with a number in it is no empty one
ordered_by : (s : Stretch) (c w : ℤ) → pos 0 <ℤ w → IsInStretch s c w → s.low ≤ℤ s.high
ordered_by s c w positive i =
    let low = *ℤ_comm w s.low in let high = *ℤ_comm w s.high in let a = i.above in let b = i.below in
    cancel_at_most w s.low s.high positive (omega (arith, linear))

module _ (v : Winding) (c : Cuboid) (convex : IsConvex v) (within : LiesWithin v c) where
  top_in : (h : Plane) → IsInCuboid c (top h c)
  unfolding top
  top_in h =
      let r = middle_in_region v convex in let i = within (middle v) r in
      record {
        x = end_in h.nx c.x (ordered_by c.x (middle v).x (middle v).w r.weight i.x);
        y = end_in h.ny c.y (ordered_by c.y (middle v).y (middle v).w r.weight i.y);
        z = end_in h.nz c.z (ordered_by c.z (middle v).z (middle v).w r.weight i.z);
      }

  -- ---- a point of the winding beside it

  module _ (all : HasAllOf v c) (h : Plane) (k : ℤ) (factor : pos 0 ≤ℤ k) where
    beside : Point
    beside = point_sum (point_times k (top h c)) (middle v)

    value_beside : (g : Plane) → value g beside ≡ (k *ℤ value g (top h c)) +ℤ value g (middle v)
    unfolding beside
    value_beside g =
        let s = value_sum g (point_times k (top h c)) (middle v) in
        let t = value_times g k (top h c) in
        omega (arith, linear)

    beside_in_region : IsInRegion v beside
    unfolding beside top
    beside_in_region = record { weight = weight; on = on; inside = All-from_get_or (λ e. IsInFront e beside) v.edges v.plane each }
      where
        r : IsInRegion v (middle v)
        r = middle_in_region v convex

        top_weight : pos 0 ≤ℤ (top h c).w
        top_weight = omega (arith, ints)

        weight : pos 0 <ℤ beside.w
        weight = let p = product_not_negative k (top h c).w factor top_weight in let m = r.weight in omega (arith, linear)

        on : IsOn v.plane beside
        on =
            let s = value_beside v.plane in
            let a = ap (λ x. k *ℤ x) (all.on (top h c) top_weight (top_in h)) ∙ *ℤ_zero k in
            let b = r.on in
            omega (arith, linear)

        each : (j : ℕ) → j < length v.edges → IsInFront (edge_at v j) beside
        each j below =
            let s = value_beside (edge_at v j) in
            let a = product_not_negative k (value (edge_at v j) (top h c)) factor (all.inside (top h c) top_weight (top_in h) j v.plane below) in
            let b = r.inside j v.plane below in
            omega (arith, linear)

  -- ---- the law

  pub in_front_by_reach : HasAllOf v c → (h : Plane) → pos 0 <ℤ greatest_value h c → HasCornerInFront v h
  in_front_by_reach all h reach = (some_in_front v h convex).0 (beside all h many factor, beside_in_region all h many factor, front)
    where
      many : ℤ
      many = pos (unsigned_abs (value h (middle v)) + 1)

      factor : pos 0 ≤ℤ many
      factor = omega (arith, ints)

      front : IsInFront h (beside all h many factor)
      front =
          let s = value_beside all h many factor h in
          let t = value_top h c in
          let m = times_at_most many (pos 1) (value h (top h c)) factor (omega (arith, ints)) in
          let e = *ℤ_one many in
          let f : neg_ℤ (value h (middle v)) <ℤ many = omega (arith, ints) in
          omega (arith, linear)

  pub reach_by_front : (h : Plane) → HasCornerInFront v h → pos 0 <ℤ greatest_value h c
  reach_by_front h corner = by_least (pos 0) (greatest_value h c)
      (λ more. more)
      (λ at_most. absurd (none_in_front v h convex (none_in_front_by_greatest v c h within at_most) corner))

  -- ---- of some planes

  pub beyond_by_reach : HasAllOf v c → (planes : List Plane) → ReachesBeyond c planes → HasCornersBeyond v planes
  beyond_by_reach all planes reach h there = in_front_by_reach all h (All-contains (λ g. pos 0 <ℤ greatest_value g c) planes h reach there)

  pub reach_by_beyond : (planes : List Plane) → HasCornersBeyond v planes → ReachesBeyond c planes
  reach_by_beyond planes beyond = All-from_contains (λ g. pos 0 <ℤ greatest_value g c) planes (λ h there. reach_by_front h (beyond h there))
