-- The least distance at which no corner is in front: there is one for each normal, it is one alone, and how large it can be
-- where the normal is small.
use Rattle.std.proofs.Common.{◌≡◌, ℕ, zero, suc, ◌*◌, ◌≤◌, ◌<◌, ℤ, pos, neg_ℤ, ◌+ℤ◌, ◌-ℤ◌, ◌*ℤ◌, ◌≤ℤ◌, ◌<ℤ◌, List, [], ◌∷◌, length, get_or, refl, subst, arith, unsigned_abs}
use Rattle.std.specs.Int.{int_max}
use Rattle.std.specs.List.{All, Any}
use Rattle.std.proofs.lemmas.Int.{ints}
use Rattle.std.proofs.lemmas.Option.{slice_get-get_or, get_or_from_slice_get}
use Rattle.std.proofs.Math.IntN.{*ℤ_comm}
use Rattle.qm_numbers.proofs.IntegerProducts.{linear, +ℤ-*ℤ, one_*ℤ, neg-*ℤ}
use Rattle.qm_numbers.proofs.Signs.{by_order, by_least, times_at_most, abs_sum, abs_product_bound}
use Rattle.qm_space.specs.Bounds.{world_extent, normal_bound, cube_distance_bound}
use Rattle.qm_space.specs.Point.{Point}
use Rattle.qm_space.specs.Plane.{Plane, value, IsNotInFront, IsInFront}
use Rattle.qm_space.specs.Cube.{IsUpToExtent, IsInClosedCube}
use Rattle.qm_space.specs.Reduced.{HasSmallNormal}
use Rattle.qm_space.specs.LeastDistance.{plane_at_distance, product_along, IsLeastDistance}
use Rattle.qm_space.specs.inner.LeastDistanceOf.{IsLeastDistanceOf}
use Rattle.qm_space.proofs.LeastDistances.{value_at_distance, up_is_least, IsLeastSoFar, so_far_begun, so_far_gained, so_far_ended}
use Rattle.qm_separators.proofs.Roundings.{up}

-- ---- one alone

pub distance_alone : (normal : List ℤ) (corners : List Point) (a b : ℤ) → IsLeastDistance normal corners a → IsLeastDistance normal corners b → a ≡ b
distance_alone normal corners a b x y = by_order a b (λ l. absurd (not_less a b x y l)) (λ e. e) (λ l. absurd (not_less b a y x l))
  where
    not_less : (a b : ℤ) → IsLeastDistance normal corners a → IsLeastDistance normal corners b → a <ℤ b → ⊥
    not_less a b x y l =
        let some = y.some_in_front a l in
        let none = subst (λ p. IsNotInFront (plane_at_distance normal a) p) some.3 (x.none_in_front a (omega (arith, linear)) some.0 some.1 some.2) in
        let front = some.4 in
        omega (arith, linear)

-- ---- there is one

other_default : (xs : List Point) (i : ℕ) (d e : Point) → i < length xs → get_or xs i d ≡ get_or xs i e
other_default xs i d e h = get_or_from_slice_get xs i (get_or xs i e) d (slice_get-get_or xs i e h)

module _ (normal : List ℤ) (corners : List Point) (some : 0 < length corners) (weights : (i : ℕ) (d : Point) → i < length corners → pos 0 <ℤ (get_or corners i d).w) (default : Point) where
  of_one : (i : ℕ) → i < length corners → (q : ℤ) × IsLeastDistanceOf normal (get_or corners i default) q
  of_one i h =
      let p = get_or corners i default in
      let q = up (product_along normal p) p.w (weights i default h) in
      (q.0, up_is_least normal p q.0 (weights i default h) q.1)

  so_far : (i : ℕ) → i ≤ length corners → (least : ℤ) × IsLeastSoFar normal corners i least
  so_far zero h = let q = of_one 0 some in (q.0, so_far_begun normal corners (get_or corners 0 default) q.0 (other_default corners 0 default (get_or corners 0 default) some) some q.1)
  so_far (suc i) h =
      let s = so_far i (omega arith) in
      let q = of_one i (omega arith) in
      (int_max s.0 q.0, subst (λ (n : ℕ). IsLeastSoFar normal corners n (int_max s.0 q.0)) (omega arith) (so_far_gained normal corners i (get_or corners i default) s.0 q.0 (other_default corners i default (get_or corners i default) (omega arith)) (omega arith) s.1 q.1))

  pub least_distance : (least : ℤ) × IsLeastDistance normal corners least
  least_distance = let s = so_far (length corners) (omega arith) in (s.0, so_far_ended normal corners (length corners) s.0 (omega arith) s.1)

-- ---- how large

up_to_extent : (c w : ℤ) → pos 0 <ℤ w → IsUpToExtent c w → unsigned_abs c ≤ world_extent * unsigned_abs w
up_to_extent c w h is = let a = is.above in let b = is.below in omega (arith, ints)

-- the part of a plane's value that its normal gives
along : (a b c : ℤ) (p : Point) → IsInClosedCube p → unsigned_abs a ≤ normal_bound → unsigned_abs b ≤ normal_bound → unsigned_abs c ≤ normal_bound → unsigned_abs (((a *ℤ p.x) +ℤ (b *ℤ p.y)) +ℤ (c *ℤ p.z)) ≤ cube_distance_bound * unsigned_abs p.w
along a b c p is a_small b_small c_small =
    let n = world_extent * unsigned_abs p.w in
    let x = abs_product_bound a p.x normal_bound n a_small (up_to_extent p.x p.w is.weight is.x) in
    let y = abs_product_bound b p.y normal_bound n b_small (up_to_extent p.y p.w is.weight is.y) in
    let z = abs_product_bound c p.z normal_bound n c_small (up_to_extent p.z p.w is.weight is.z) in
    let s = abs_sum (a *ℤ p.x) (b *ℤ p.y) in
    let t = abs_sum ((a *ℤ p.x) +ℤ (b *ℤ p.y)) (c *ℤ p.z) in
    omega arith

value_is : (h : Plane) (d : ℤ) (p : Point) → value (plane_at_distance (h.nx ∷ h.ny ∷ h.nz ∷ []) d) p ≡ (((h.nx *ℤ p.x) +ℤ (h.ny *ℤ p.y)) +ℤ (h.nz *ℤ p.z)) -ℤ (d *ℤ p.w)
unfolding value
value_is h d p = refl

module _ (h : Plane) (corners : List Point) (some : 0 < length corners) (inside : (i : ℕ) (d : Point) → i < length corners → IsInClosedCube (get_or corners i d)) (small : HasSmallNormal h) (least : IsLeastDistance (h.nx ∷ h.ny ∷ h.nz ∷ []) corners h.d) where
  abbrev total : Point → ℤ
  total p = ((h.nx *ℤ p.x) +ℤ (h.ny *ℤ p.y)) +ℤ (h.nz *ℤ p.z)

  -- the bound times a positive number
  bounded : (p : Point) → IsInClosedCube p → (neg_ℤ (pos cube_distance_bound *ℤ p.w) ≤ℤ total p) × (total p ≤ℤ (pos cube_distance_bound *ℤ p.w))
  bounded p is = let l = along h.nx h.ny h.nz p is small.x small.y small.z in let w = is.weight in within (total p) p.w w l
    where
      within : (t w : ℤ) → pos 0 <ℤ w → unsigned_abs t ≤ cube_distance_bound * unsigned_abs w → (neg_ℤ (pos cube_distance_bound *ℤ w) ≤ℤ t) × (t ≤ℤ (pos cube_distance_bound *ℤ w))
      within t w p l = (omega (arith, ints), omega (arith, ints))

  not_above : pos cube_distance_bound <ℤ h.d → ⊥
  not_above l =
      let s = least.some_in_front (h.d -ℤ pos 1) (omega (arith, linear)) in
      let is = subst IsInClosedCube s.3 (inside s.0 s.1 s.2) in
      let w = is.weight in
      let e = value_is h (h.d -ℤ pos 1) s.1 in
      let m = times_at_most s.1.w (pos cube_distance_bound) (h.d -ℤ pos 1) (omega (arith, linear)) (omega (arith, linear)) in
      let a = *ℤ_comm s.1.w (pos cube_distance_bound) in let b = *ℤ_comm s.1.w (h.d -ℤ pos 1) in
      let c = (bounded s.1 is).1 in
      let f = s.4 in
      omega (arith, linear)

  not_below : h.d <ℤ neg_ℤ (pos cube_distance_bound) → ⊥
  not_below l =
      let p = get_or corners 0 (record { x = pos 0; y = pos 0; z = pos 0; w = pos 1 }) in
      let is = inside 0 (record { x = pos 0; y = pos 0; z = pos 0; w = pos 1 }) some in
      let w = is.weight in
      let none = least.none_in_front h.d (omega (arith, linear)) 0 (record { x = pos 0; y = pos 0; z = pos 0; w = pos 1 }) some in
      let e = value_is h h.d p in
      let m = times_at_most p.w (h.d +ℤ pos 1) (neg_ℤ (pos cube_distance_bound)) (omega (arith, linear)) (omega (arith, linear)) in
      let a = *ℤ_comm p.w (neg_ℤ (pos cube_distance_bound)) in let b = *ℤ_comm p.w (h.d +ℤ pos 1) in
      let n = neg-*ℤ (pos cube_distance_bound) p.w in
      let q = +ℤ-*ℤ h.d (pos 1) p.w in let o = one_*ℤ p.w in
      let c = (bounded p is).0 in
      omega (arith, linear)

  pub distance_size : unsigned_abs h.d ≤ cube_distance_bound
  distance_size = by_least (pos cube_distance_bound) h.d
      (λ l. absurd (not_above l))
      (λ l. by_least h.d (neg_ℤ (pos cube_distance_bound)) (λ k. absurd (not_below k)) (λ k. within h.d l k))
    where
      within : (d : ℤ) → d ≤ℤ pos cube_distance_bound → neg_ℤ (pos cube_distance_bound) ≤ℤ d → unsigned_abs d ≤ cube_distance_bound
      within d l k = omega (arith, ints)

-- ---- a distance that is raised

-- a corner that is not in front is not so at any greater distance
pub not_in_front_raised : (normal : List ℤ) (p : Point) (d e : ℤ) → pos 0 <ℤ p.w → d ≤ℤ e → IsNotInFront (plane_at_distance normal d) p → IsNotInFront (plane_at_distance normal e) p
not_in_front_raised normal p d e weight l not =
    let a = value_at_distance normal d p in let b = value_at_distance normal e p in
    let m = times_at_most p.w d e (omega (arith, linear)) l in
    let x = *ℤ_comm p.w d in let y = *ℤ_comm p.w e in
    omega (arith, linear)

-- one that is in front is so at any lesser distance
pub in_front_lowered : (normal : List ℤ) (p : Point) (d e : ℤ) → pos 0 <ℤ p.w → d ≤ℤ e → IsInFront (plane_at_distance normal e) p → IsInFront (plane_at_distance normal d) p
in_front_lowered normal p d e weight l front =
    let a = value_at_distance normal d p in let b = value_at_distance normal e p in
    let m = times_at_most p.w d e (omega (arith, linear)) l in
    let x = *ℤ_comm p.w d in let y = *ℤ_comm p.w e in
    omega (arith, linear)

-- so a distance is the least where no corner is in front there, and some corner is at the one before
pub least_by_neighbours : (normal : List ℤ) (corners : List Point) (d : ℤ) → ((i : ℕ) (e : Point) → i < length corners → pos 0 <ℤ (get_or corners i e).w) → All (λ p. IsNotInFront (plane_at_distance normal d) p) corners → Any (λ p. IsInFront (plane_at_distance normal (d -ℤ pos 1)) p) corners → IsLeastDistance normal corners d
least_by_neighbours normal corners d weights none some = record {
  none_in_front = λ e l i x h. not_in_front_raised normal (get_or corners i x) d e (weights i x h) l (none i x h);
  some_in_front = λ e l. (some.0, some.1, some.2, some.3, in_front_lowered normal some.1 e (d -ℤ pos 1) (subst (λ (p : Point). pos 0 <ℤ p.w) some.3 (weights some.0 some.1 some.2)) (omega (arith, linear)) some.4);
}
