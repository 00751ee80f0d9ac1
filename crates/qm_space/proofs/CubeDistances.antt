-- How far a plane can be that has a point of the closed cube: its normal bounds its distance.
use Rattle.std.proofs.Common.{◌≡◌, ◌∙◌, ℕ, ◌+◌, ◌*◌, ◌≤◌, ◌<◌, ℤ, pos, ◌+ℤ◌, ◌*ℤ◌, ◌<ℤ◌, ap, sym, subst, arith, unsigned_abs}
use Rattle.std.proofs.lemmas.Int.{ints}
use Rattle.std.proofs.Math.Nat.{add-mul, mul-add, mul_assoc, mul_left_comm, le_of_mul-le-mul_left, le_of_mul-le-mul_right}
use Rattle.qm_space.specs.Bounds.{world_extent, distance_bound, cube_distance_bound}
use Rattle.qm_space.specs.Point.{Point}
use Rattle.qm_space.specs.Plane.{Plane, value, IsOn, flipped}
use Rattle.qm_space.specs.Cube.{IsUpToExtent, IsInClosedCube}
use Rattle.qm_space.specs.Reduced.{HasNormal, HasSmallNormal}
use Rattle.qm_space.specs.ThreePoints.{common_factor, reduced}
use Rattle.qm_space.specs.inner.SpannedSizes.{IsWithinReach}
use Rattle.qm_numbers.proofs.IntegerProducts.{linear}
use Rattle.qm_numbers.proofs.Signs.{abs_neg, abs_sum, abs_product, abs_product_bound}
use Rattle.qm_numbers.proofs.Divisors.{abs_exact_division}
use Rattle.qm_space.proofs.ReducedPlanes.{common_factor_divides, common_factor_positive}

-- ---- products of sums

pub three_times : (a b c n : ℕ) → a * n + b * n + c * n ≡ (a + b + c) * n
three_times a b c n = sym (add-mul (a + b) c n ∙ ap (λ (s : ℕ). s + c * n) (add-mul a b n))

pub times_three : (n a b c : ℕ) → n * a + n * b + n * c ≡ n * (a + b + c)
times_three n a b c = sym (mul-add n (a + b) c ∙ ap (λ (s : ℕ). s + n * c) (mul-add n a b))

sum_small : (x y z : ℤ) (a b c n : ℕ) → unsigned_abs x ≤ a * n → unsigned_abs y ≤ b * n → unsigned_abs z ≤ c * n → unsigned_abs ((x +ℤ y) +ℤ z) ≤ (a + b + c) * n
sum_small x y z a b c n h k l =
    let s = abs_sum x y in let t = abs_sum (x +ℤ y) z in
    let u : unsigned_abs ((x +ℤ y) +ℤ z) ≤ a * n + b * n + c * n = omega arith in
    subst (λ (m : ℕ). unsigned_abs ((x +ℤ y) +ℤ z) ≤ m) (three_times a b c n) u

-- ---- a point of the closed cube

pub up_to_extent : (c w : ℤ) → pos 0 <ℤ w → IsUpToExtent c w → unsigned_abs c ≤ world_extent * unsigned_abs w
up_to_extent c w h is = let a = is.above in let b = is.below in omega (arith, ints)

part_small : (n c w : ℤ) → pos 0 <ℤ w → IsUpToExtent c w → unsigned_abs (n *ℤ c) ≤ unsigned_abs n * (world_extent * unsigned_abs w)
part_small n c w h is = abs_product_bound n c (unsigned_abs n) (world_extent * unsigned_abs w) (omega arith) (up_to_extent c w h is)

-- the normal bounds the distance
pub cube_distance : (h : Plane) (p : Point) → IsInClosedCube p → IsOn h p → IsWithinReach h
unfolding value
cube_distance h p inside on = le_of_mul-le-mul_right (subst (λ (n : ℕ). unsigned_abs h.d * unsigned_abs p.w ≤ n) (mul_left_comm s world_extent (unsigned_abs p.w) ∙ sym (mul_assoc world_extent s (unsigned_abs p.w))) times) some
  where
    s : ℕ
    s = unsigned_abs h.nx + unsigned_abs h.ny + unsigned_abs h.nz

    some : 0 < unsigned_abs p.w
    some = let w = inside.weight in omega (arith, ints)

    along : ((h.nx *ℤ p.x) +ℤ (h.ny *ℤ p.y)) +ℤ (h.nz *ℤ p.z) ≡ h.d *ℤ p.w
    along = omega (arith, linear)

    total : unsigned_abs (((h.nx *ℤ p.x) +ℤ (h.ny *ℤ p.y)) +ℤ (h.nz *ℤ p.z)) ≤ s * (world_extent * unsigned_abs p.w)
    total =
        sum_small (h.nx *ℤ p.x) (h.ny *ℤ p.y) (h.nz *ℤ p.z) (unsigned_abs h.nx) (unsigned_abs h.ny) (unsigned_abs h.nz) (world_extent * unsigned_abs p.w)
        (part_small h.nx p.x p.w inside.weight inside.x) (part_small h.ny p.y p.w inside.weight inside.y) (part_small h.nz p.z p.w inside.weight inside.z)

    times : unsigned_abs h.d * unsigned_abs p.w ≤ s * (world_extent * unsigned_abs p.w)
    times = subst (λ (n : ℕ). n ≤ s * (world_extent * unsigned_abs p.w)) (ap unsigned_abs along ∙ abs_product h.d p.w) total

-- ---- a small normal gives a small distance

pub reach_small : (h : Plane) → IsWithinReach h → HasSmallNormal h → unsigned_abs h.d ≤ cube_distance_bound
reach_small h within small = let x = small.x in let y = small.y in let z = small.z in omega arith

pub cube_distance_small : (h : Plane) (p : Point) → IsInClosedCube p → IsOn h p → HasSmallNormal h → unsigned_abs h.d ≤ cube_distance_bound
cube_distance_small h p inside on small = reach_small h (cube_distance h p inside on) small

-- which is that of a plane
pub reach_of_plane : (h : Plane) → IsWithinReach h → HasSmallNormal h → unsigned_abs h.d ≤ distance_bound
reach_of_plane h within small = let d = reach_small h within small in omega arith

-- ---- kept where the sides are exchanged, and in lowest terms

pub flipped_within_reach : (h : Plane) → IsWithinReach h → IsWithinReach (flipped h)
flipped_within_reach h within = rw (abs_neg h.nx, abs_neg h.ny, abs_neg h.nz, abs_neg h.d) within

divided : (k a b c d x y z e : ℕ) → 0 < k → k * a ≡ x → k * b ≡ y → k * c ≡ z → k * d ≡ e → e ≤ world_extent * (x + y + z) → d ≤ world_extent * (a + b + c)
divided k a b c d x y z e some is_x is_y is_z is_e within =
    let times : k * d ≤ world_extent * (k * a + k * b + k * c) = rw (is_x, is_y, is_z, is_e) within in
    le_of_mul-le-mul_left (subst (λ (n : ℕ). k * d ≤ n) (ap (λ (n : ℕ). world_extent * n) (times_three k a b c) ∙ mul_left_comm world_extent k (a + b + c)) times) some

pub reduced_within_reach : (h : Plane) → HasNormal h → IsWithinReach h → IsWithinReach (reduced h)
unfolding reduced
reduced_within_reach h normal within =
    let c = common_factor_divides h in let k = common_factor h in
    divided k _ _ _ _ _ _ _ _ (common_factor_positive h normal) (abs_exact_division h.nx k c.nx) (abs_exact_division h.ny k c.ny) (abs_exact_division h.nz k c.nz) (abs_exact_division h.d k c.d) within
