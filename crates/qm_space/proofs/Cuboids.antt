-- A plane's values at the points of a cuboid.
use Rattle.std.specs.Prelude.{int_lt}
use Rattle.std.proofs.Common.{◌≡◌, ◌≤◌, ℤ, pos, negsuc, neg_ℤ, ◌+ℤ◌, ◌-ℤ◌, ◌*ℤ◌, ◌≤ℤ◌, ◌<ℤ◌, ap, sym, subst, arith, unsigned_abs, ◌⊎◌, ⊎_elim, cond}
use Rattle.std.proofs.lemmas.Int.{ints}
use Rattle.std.proofs.Math.IntN.{*ℤ_comm}
use Rattle.qm_space.specs.Bounds.{extent, world_extent, normal_bound, product_bound}
use Rattle.qm_space.specs.Point.{Point, IsCoordinate}
use Rattle.qm_space.specs.Cube.{IsInClosedCube}
use Rattle.qm_space.specs.Plane.{Plane, value}
use Rattle.qm_space.specs.Cuboid.{Stretch, Cuboid, IsInStretch, IsInCuboid, whole_stretch, whole_cuboid, least_product, greatest_product, least_value, greatest_value, IsTightened, IsTightenedOn, IsTightenedStretch, IsTightenedBetween}
use Rattle.qm_numbers.proofs.IntegerProducts.{linear, *ℤ_assoc, one_*ℤ, +ℤ-*ℤ, -ℤ-*ℤ, neg-*ℤ}
use Rattle.qm_numbers.proofs.Signs.{side_test, times_at_most, cancel_at_most, abs_product_bound}
use Rattle.qm_space.proofs.CoordinateSizes.{coordinate_small}

-- ---- products with the numbers of a stretch

-- a factor that is not positive turns the order
times_turned : (n a b : ℤ) → n ≤ℤ pos 0 → a ≤ℤ b → (n *ℤ b) ≤ℤ (n *ℤ a)
times_turned n a b h k =
    let p = times_at_most (pos 0 -ℤ n) a b (omega (arith, linear)) k in
    let e = -ℤ-*ℤ (pos 0) n a in let f = -ℤ-*ℤ (pos 0) n b in
    omega (arith, ints, linear)

-- a case of the sign of n, for a choice by it
by_test : (P : ℤ → Type 0) (n a b : ℤ) → (n <ℤ pos 0 → P a) → (pos 0 ≤ℤ n → P b) → P (cond (int_lt n (pos 0)) a b)
by_test P n a b l g = ⊎_elim
    (λ t. subst (λ c. P (cond c a b)) (sym t.0) (l t.1))
    (λ t. subst (λ c. P (cond c a b)) (sym t.0) (g t.1))
    (side_test n)

pub least_product_bound : (n : ℤ) (stretch : Stretch) (c w : ℤ) → IsInStretch stretch c w → (least_product n stretch *ℤ w) ≤ℤ (n *ℤ c)
unfolding least_product
least_product_bound n stretch c w s = by_test (λ z. (z *ℤ w) ≤ℤ (n *ℤ c)) n (n *ℤ stretch.high) (n *ℤ stretch.low)
    (λ l. let p = times_turned n c (stretch.high *ℤ w) (omega (arith, linear)) s.below in let e = *ℤ_assoc n stretch.high w in omega (arith, linear))
    (λ g. let p = times_at_most n (stretch.low *ℤ w) c g s.above in let e = *ℤ_assoc n stretch.low w in omega (arith, linear))

pub greatest_product_bound : (n : ℤ) (stretch : Stretch) (c w : ℤ) → IsInStretch stretch c w → (n *ℤ c) ≤ℤ (greatest_product n stretch *ℤ w)
unfolding greatest_product
greatest_product_bound n stretch c w s = by_test (λ z. (n *ℤ c) ≤ℤ (z *ℤ w)) n (n *ℤ stretch.low) (n *ℤ stretch.high)
    (λ l. let p = times_turned n (stretch.low *ℤ w) c (omega (arith, linear)) s.above in let e = *ℤ_assoc n stretch.low w in omega (arith, linear))
    (λ g. let p = times_at_most n c (stretch.high *ℤ w) g s.below in let e = *ℤ_assoc n stretch.high w in omega (arith, linear))

-- ---- the least and the greatest value

-- a sum of three numbers less a fourth, times w
sum_times : (a b c d w : ℤ) → (((a +ℤ b) +ℤ c) -ℤ d) *ℤ w ≡ (((a *ℤ w) +ℤ (b *ℤ w)) +ℤ (c *ℤ w)) -ℤ (d *ℤ w)
sum_times a b c d w =
    let e = -ℤ-*ℤ ((a +ℤ b) +ℤ c) d w in let f = +ℤ-*ℤ (a +ℤ b) c w in let g = +ℤ-*ℤ a b w in
    omega (arith, linear)

pub least_value_bound : (h : Plane) (c : Cuboid) (p : Point) → IsInCuboid c p → (least_value h c *ℤ p.w) ≤ℤ value h p
unfolding least_value value
least_value_bound h c p i =
    let e = sum_times (least_product h.nx c.x) (least_product h.ny c.y) (least_product h.nz c.z) h.d p.w in
    let x = least_product_bound h.nx c.x p.x p.w i.x in
    let y = least_product_bound h.ny c.y p.y p.w i.y in
    let z = least_product_bound h.nz c.z p.z p.w i.z in
    omega (arith, linear)

pub greatest_value_bound : (h : Plane) (c : Cuboid) (p : Point) → IsInCuboid c p → value h p ≤ℤ (greatest_value h c *ℤ p.w)
unfolding greatest_value value
greatest_value_bound h c p i =
    let e = sum_times (greatest_product h.nx c.x) (greatest_product h.ny c.y) (greatest_product h.nz c.z) h.d p.w in
    let x = greatest_product_bound h.nx c.x p.x p.w i.x in
    let y = greatest_product_bound h.ny c.y p.y p.w i.y in
    let z = greatest_product_bound h.nz c.z p.z p.w i.z in
    omega (arith, linear)

-- ---- the closed cube

pub closed_cube_in_whole : (p : Point) → IsInClosedCube p → IsInCuboid whole_cuboid p
closed_cube_in_whole p c = record { x = within p.x c.x.above c.x.below; y = within p.y c.y.above c.y.below; z = within p.z c.z.above c.z.below }
  where
    within : (x : ℤ) → neg_ℤ (extent *ℤ p.w) ≤ℤ x → x ≤ℤ (extent *ℤ p.w) → IsInStretch whole_stretch x p.w
    within x a b = let e = neg-*ℤ extent p.w in record { above = omega (arith, linear); below = omega (arith, linear) }

-- ---- sizes

pub product_small : (n c : ℤ) → unsigned_abs n ≤ normal_bound → IsCoordinate c → unsigned_abs (n *ℤ c) ≤ product_bound
product_small n c h k = abs_product_bound n c normal_bound world_extent h (coordinate_small c k)

-- ---- stretches and cuboids that are tightened

-- a stretch from a number on, as the code chooses its low end
pub from_kept : (stretch : Stretch) (least low : ℤ) → (low ≤ℤ stretch.low) ⊎ (low ≤ℤ least) → IsTightenedStretch (record { low = low; high = stretch.high }) stretch (pos 1) least
from_kept stretch least low h c w pw s l = ⊎_elim
    (λ k. let p = times_at_most w low stretch.low pw k in let e = *ℤ_comm w low in let f = *ℤ_comm w stretch.low in let a = s.above in record { above = omega (arith, linear); below = s.below })
    (λ k. let p = times_at_most w low least pw k in let e = *ℤ_comm w low in let f = *ℤ_comm w least in let o = one_*ℤ c in record { above = omega (arith, linear); below = s.below })
    h

pub up_to_kept : (stretch : Stretch) (greatest high : ℤ) → (stretch.high ≤ℤ high) ⊎ (greatest ≤ℤ high) → IsTightenedStretch (record { low = stretch.low; high = high }) stretch (negsuc 0) (neg_ℤ greatest)
up_to_kept stretch greatest high h c w pw s l = ⊎_elim
    (λ k. let p = times_at_most w stretch.high high pw k in let e = *ℤ_comm w high in let f = *ℤ_comm w stretch.high in let a = s.below in record { above = s.above; below = omega (arith, linear) })
    (λ k. let p = times_at_most w greatest high pw k in let e = *ℤ_comm w high in let f = *ℤ_comm w greatest in let n = neg-*ℤ greatest w in let o = neg-*ℤ (pos 1) c in let q = one_*ℤ c in record { above = s.above; below = omega (arith, linear) })
    h

-- a stretch tightened by a unit is tightened by a multiple of it, where the number times that is at most another
pub tightened_multiple : (t stretch : Stretch) (u m q least : ℤ) → pos 0 <ℤ m → (q *ℤ m) ≤ℤ least → IsTightenedStretch t stretch u q → IsTightenedStretch t stretch (m *ℤ u) least
tightened_multiple t stretch u m q least p h k c w pw s l =
    let a = times_at_most w (q *ℤ m) least pw h in
    let e = *ℤ_comm w (q *ℤ m) in let f = *ℤ_comm w least in
    let g = *ℤ_assoc q m w in let i = ap (λ (n : ℤ). q *ℤ n) (*ℤ_comm m w) in
    let j = *ℤ_assoc q w m in let n = *ℤ_comm m (q *ℤ w) in let o = *ℤ_assoc m u c in
    k c w pw s (cancel_at_most m (q *ℤ w) (u *ℤ c) p (omega (arith, linear)))

-- a cuboid by a plane: across each axis by what the two others leave of the distance
left_times : (d a b w : ℤ) → ((d -ℤ a) -ℤ b) *ℤ w ≡ ((d *ℤ w) -ℤ (a *ℤ w)) -ℤ (b *ℤ w)
left_times d a b w = let e = -ℤ-*ℤ (d -ℤ a) b w in let f = -ℤ-*ℤ d a w in omega (arith, linear)

pub tightened_cuboid : (c : Cuboid) (h : Plane) (x y z : Stretch) →
    IsTightenedStretch x c.x h.nx ((h.d -ℤ greatest_product h.ny c.y) -ℤ greatest_product h.nz c.z) →
    IsTightenedStretch y c.y h.ny ((h.d -ℤ greatest_product h.nz c.z) -ℤ greatest_product h.nx c.x) →
    IsTightenedStretch z c.z h.nz ((h.d -ℤ greatest_product h.nx c.x) -ℤ greatest_product h.ny c.y) →
    IsTightened (record { x = x; y = y; z = z }) c h
unfolding value
tightened_cuboid c h x y z of_x of_y of_z p w i l =
    let a = greatest_product_bound h.nx c.x p.x p.w i.x in
    let b = greatest_product_bound h.ny c.y p.y p.w i.y in
    let d = greatest_product_bound h.nz c.z p.z p.w i.z in
    let e = left_times h.d (greatest_product h.ny c.y) (greatest_product h.nz c.z) p.w in
    let f = left_times h.d (greatest_product h.nz c.z) (greatest_product h.nx c.x) p.w in
    let g = left_times h.d (greatest_product h.nx c.x) (greatest_product h.ny c.y) p.w in
    record { x = of_x p.x p.w w i.x (omega (arith, linear)); y = of_y p.y p.w w i.y (omega (arith, linear)); z = of_z p.z p.w w i.z (omega (arith, linear)) }

-- a stretch by both ends
pub tightened_between : (t u stretch : Stretch) (n d e : ℤ) → IsTightenedStretch t stretch n d → IsTightenedStretch u t (neg_ℤ n) (neg_ℤ e) → IsTightenedBetween u stretch n d e
tightened_between t u stretch n d e k l c w pw s low high =
    let f = neg-*ℤ e w in let g = neg-*ℤ n c in
    l c w pw (k c w pw s low) (omega (arith, linear))

-- and a cuboid on a plane
pub tightened_cuboid_on : (c : Cuboid) (h : Plane) (x y z : Stretch) →
    IsTightenedBetween x c.x h.nx ((h.d -ℤ greatest_product h.ny c.y) -ℤ greatest_product h.nz c.z) ((h.d -ℤ least_product h.ny c.y) -ℤ least_product h.nz c.z) →
    IsTightenedBetween y c.y h.ny ((h.d -ℤ greatest_product h.nz c.z) -ℤ greatest_product h.nx c.x) ((h.d -ℤ least_product h.nz c.z) -ℤ least_product h.nx c.x) →
    IsTightenedBetween z c.z h.nz ((h.d -ℤ greatest_product h.nx c.x) -ℤ greatest_product h.ny c.y) ((h.d -ℤ least_product h.nx c.x) -ℤ least_product h.ny c.y) →
    IsTightenedOn (record { x = x; y = y; z = z }) c h
unfolding value
tightened_cuboid_on c h x y z of_x of_y of_z p w i l =
    let a = greatest_product_bound h.nx c.x p.x p.w i.x in
    let b = greatest_product_bound h.ny c.y p.y p.w i.y in
    let d = greatest_product_bound h.nz c.z p.z p.w i.z in
    let a' = least_product_bound h.nx c.x p.x p.w i.x in
    let b' = least_product_bound h.ny c.y p.y p.w i.y in
    let d' = least_product_bound h.nz c.z p.z p.w i.z in
    let e = left_times h.d (greatest_product h.ny c.y) (greatest_product h.nz c.z) p.w in
    let f = left_times h.d (greatest_product h.nz c.z) (greatest_product h.nx c.x) p.w in
    let g = left_times h.d (greatest_product h.nx c.x) (greatest_product h.ny c.y) p.w in
    let e' = left_times h.d (least_product h.ny c.y) (least_product h.nz c.z) p.w in
    let f' = left_times h.d (least_product h.nz c.z) (least_product h.nx c.x) p.w in
    let g' = left_times h.d (least_product h.nx c.x) (least_product h.ny c.y) p.w in
    record {
      x = of_x p.x p.w w i.x (omega (arith, linear, l)) (omega (arith, linear, l));
      y = of_y p.y p.w w i.y (omega (arith, linear, l)) (omega (arith, linear, l));
      z = of_z p.z p.w w i.z (omega (arith, linear, l)) (omega (arith, linear, l));
    }
