-- Planes that are moved by a box: multiples stay multiples, lowest terms stay lowest, and what is behind stays behind.
use Rattle.std.proofs.Common.{◌≡◌, ℕ, ◌*◌, ◌^◌, ◌≤◌, ℤ, pos, ◌+ℤ◌, ◌-ℤ◌, ◌*ℤ◌, ◌<ℤ◌, ◌≤ℤ◌, Bool, cond, List, [], ◌∷◌, map, inl, inr, refl, sym, ap, ◌∙◌, subst, arith, unsigned_abs, int_div}
use Rattle.std.specs.Int.{◌∣◌}
use Rattle.std.specs.List.{AllZip}
use Rattle.std.proofs.lemmas.Int.{ints}
use Rattle.std.proofs.lemmas.Nat.Gcd.{dvd_trans}
use Rattle.std.proofs.Math.IntN.{*ℤ_comm}
use Rattle.std.proofs.Math.Nat.{dvd-mul_right}
use Rattle.qm_numbers.proofs.IntegerProducts.{linear, *ℤ_assoc, *ℤ-+ℤ, *ℤ--ℤ, -ℤ-*ℤ, *ℤ_one, *ℤ_zero}
use Rattle.qm_numbers.proofs.Signs.{side_test, by_least, abs_product, abs_product_bound, abs_sum, abs_difference, positive_times_negative, product_not_negative, product_not_positive}
use Rattle.qm_numbers.proofs.Divisors.{exact_division}
use Rattle.qm_space.specs.Bounds.{normal_bound, cube_distance_bound}
use Rattle.qm_space.specs.Point.{Point}
use Rattle.qm_space.specs.Plane.{Plane, value, IsBehind, scaled}
use Rattle.qm_space.specs.Multiple.{IsPositiveMultiple}
use Rattle.qm_space.specs.Reduced.{IsReduced}
use Rattle.qm_space.specs.Cuboid.{Stretch, Cuboid, least_product}
use Rattle.qm_space.proofs.Cuboids.{least_product_bound}
use Rattle.qm_space.proofs.ReducedPlanes.{same_plane}
use Rattle.qm_blocking.specs.Moved.{least_over, moved_by, HasZero, HasOrigin, IsStretchUpTo, IsBoxUpTo, IsMovingBox}

-- ---- the least product

least_of_negative : (n : ℤ) (stretch : Stretch) → n <ℤ pos 0 → least_product n stretch ≡ n *ℤ stretch.high
unfolding least_product
least_of_negative n stretch less = elim (side_test n) [
  | inl test ↦ ap (λ (c : Bool). cond c (n *ℤ stretch.high) (n *ℤ stretch.low)) test.0
  | inr test ↦ absurd (let not = test.1 in omega (arith, ints))
]

least_of_other : (n : ℤ) (stretch : Stretch) → pos 0 ≤ℤ n → least_product n stretch ≡ n *ℤ stretch.low
unfolding least_product
least_of_other n stretch not = elim (side_test n) [
  | inl test ↦ absurd (let less = test.1 in omega (arith, ints))
  | inr test ↦ ap (λ (c : Bool). cond c (n *ℤ stretch.high) (n *ℤ stretch.low)) test.0
]

-- it is a product of the component
record IsProduct (n product : ℤ) : Type 0 where
  factor : ℤ
  is : product ≡ n *ℤ factor

least_is_product : (n : ℤ) (stretch : Stretch) → IsProduct n (least_product n stretch)
least_is_product n stretch = by_least n (pos 0)
    (λ less. record { factor = stretch.high; is = least_of_negative n stretch less })
    (λ not. record { factor = stretch.low; is = least_of_other n stretch not })

least_scaled : (k n : ℤ) (stretch : Stretch) → pos 0 <ℤ k → least_product (k *ℤ n) stretch ≡ k *ℤ least_product n stretch
least_scaled k n stretch positive = by_least n (pos 0)
    (λ less. least_of_negative (k *ℤ n) stretch (positive_times_negative k n positive less) ∙ *ℤ_assoc k n stretch.high ∙ sym (ap (λ z. k *ℤ z) (least_of_negative n stretch less)))
    (λ not.
    let some : pos 0 ≤ℤ k = omega (arith, linear) in
    least_of_other (k *ℤ n) stretch (product_not_negative k n some not) ∙ *ℤ_assoc k n stretch.low ∙ sym (ap (λ z. k *ℤ z) (least_of_other n stretch not)))

least_small : (n : ℤ) (stretch : Stretch) → unsigned_abs n ≤ normal_bound → IsStretchUpTo 64 stretch → unsigned_abs (least_product n stretch) ≤ 2 ^ 32
least_small n stretch small short = by_least n (pos 0)
    (λ less. let e = ap unsigned_abs (least_of_negative n stretch less) in let s = abs_product_bound n stretch.high normal_bound 64 small short.high in omega (arith, e, s))
    (λ not. let e = ap unsigned_abs (least_of_other n stretch not) in let s = abs_product_bound n stretch.low normal_bound 64 small short.low in omega (arith, e, s))

least_not_positive : (n : ℤ) (stretch : Stretch) → HasZero stretch → least_product n stretch ≤ℤ pos 0
least_not_positive n stretch zero =
    let low = zero.low in let high = zero.high in
    let low_once = *ℤ_one stretch.low in let high_once = *ℤ_one stretch.high in
    let above : (stretch.low *ℤ pos 1) ≤ℤ pos 0 = omega (arith, linear) in
    let below : pos 0 ≤ℤ (stretch.high *ℤ pos 1) = omega (arith, linear) in
    let bound = least_product_bound n stretch (pos 0) (pos 1) (record { above = above; below = below }) in
    let none = *ℤ_zero n in
    let once = *ℤ_one (least_product n stretch) in
    omega (arith, linear)

-- ---- multiples

least_over_scaled : (box : Cuboid) (k : ℤ) (h : Plane) → pos 0 <ℤ k → least_over box (scaled k h) ≡ k *ℤ least_over box h
least_over_scaled box k h positive =
    let x = least_scaled k h.nx box.x positive in
    let y = least_scaled k h.ny box.y positive in
    let z = least_scaled k h.nz box.z positive in
    let two = *ℤ-+ℤ k (least_product h.nx box.x) (least_product h.ny box.y) in
    let three = *ℤ-+ℤ k (least_product h.nx box.x +ℤ least_product h.ny box.y) (least_product h.nz box.z) in
    omega (arith, linear)

pub moved_scaled : (box : Cuboid) (k : ℤ) (h : Plane) → pos 0 <ℤ k → moved_by box (scaled k h) ≡ scaled k (moved_by box h)
moved_scaled box k h positive =
    same_plane (moved_by box (scaled k h)) (scaled k (moved_by box h)) refl refl refl
    (ap (λ (m : ℤ). (k *ℤ h.d) -ℤ m) (least_over_scaled box k h positive) ∙ sym (*ℤ--ℤ k h.d (least_over box h)))

-- a positive multiple of a plane is moved to one of the moved plane
pub moved_multiple : (box : Cuboid) (h g : Plane) → IsPositiveMultiple h g → IsPositiveMultiple (moved_by box h) (moved_by box g)
moved_multiple box h g m = record {
  factor = m.factor;
  positive = m.positive;
  multiple = ap (moved_by box) m.multiple ∙ moved_scaled box m.factor g m.positive;
}

pub moved_multiples : (box : Cuboid) (planes others : List Plane) → AllZip IsPositiveMultiple planes others → AllZip IsPositiveMultiple (map (moved_by box) planes) (map (moved_by box) others)
moved_multiples box [] [] alike = tt
moved_multiples box [] (g ∷ others) alike = absurd alike
moved_multiples box (h ∷ planes) [] alike = absurd alike
moved_multiples box (h ∷ planes) (g ∷ others) alike = (moved_multiple box h g alike.0, moved_multiples box planes others alike.1)

-- ---- lowest terms

divides_product : (k : ℕ) (n product : ℤ) → IsProduct n product → k ∣ unsigned_abs n → k ∣ unsigned_abs product
divides_product k n product times divides =
    subst (λ (m : ℕ). k ∣ m) (sym (ap unsigned_abs times.is ∙ abs_product n times.factor))
    (dvd_trans k divides (dvd-mul_right (unsigned_abs n) (unsigned_abs times.factor)))

divides_sum : (k : ℕ) (a b : ℤ) → k ∣ unsigned_abs a → k ∣ unsigned_abs b → k ∣ unsigned_abs (a +ℤ b)
divides_sum k a b of_a of_b =
    let p = int_div a (pos k) in
    let q = int_div b (pos k) in
    let e : a +ℤ b ≡ pos k *ℤ (p +ℤ q) =
    sym (λ i. exact_division a k of_a i +ℤ exact_division b k of_b i) ∙ sym (*ℤ-+ℤ (pos k) p q) in
    subst (λ (m : ℕ). k ∣ m) (sym (ap unsigned_abs e ∙ abs_product (pos k) (p +ℤ q))) (dvd-mul_right k (unsigned_abs (p +ℤ q)))

-- what divides the normal of a plane divides how far it is moved
divides_along : (box : Cuboid) (h : Plane) (k : ℕ) → k ∣ unsigned_abs h.nx → k ∣ unsigned_abs h.ny → k ∣ unsigned_abs h.nz → k ∣ unsigned_abs (least_over box h)
divides_along box h k x y z =
    divides_sum k (least_product h.nx box.x +ℤ least_product h.ny box.y) (least_product h.nz box.z)
    (divides_sum k (least_product h.nx box.x) (least_product h.ny box.y)
    (divides_product k h.nx (least_product h.nx box.x) (least_is_product h.nx box.x) x)
    (divides_product k h.ny (least_product h.ny box.y) (least_is_product h.ny box.y) y))
    (divides_product k h.nz (least_product h.nz box.z) (least_is_product h.nz box.z) z)

pub along_small : (box : Cuboid) (h : Plane) → IsReduced h → IsBoxUpTo 64 box → unsigned_abs (least_over box h) ≤ 3 * 2 ^ 32
along_small box h reduced short =
    let x = least_small h.nx box.x reduced.nx_small short.x in
    let y = least_small h.ny box.y reduced.ny_small short.y in
    let z = least_small h.nz box.z reduced.nz_small short.z in
    let s = abs_sum (least_product h.nx box.x) (least_product h.ny box.y) in
    let t = abs_sum (least_product h.nx box.x +ℤ least_product h.ny box.y) (least_product h.nz box.z) in
    omega (arith, x, y, z, s, t)

-- a plane that has a point of the cube is in lowest terms where it is moved
pub moved_is_reduced : (box : Cuboid) (h : Plane) → IsMovingBox box → IsReduced h → unsigned_abs h.d ≤ cube_distance_bound → IsReduced (moved_by box h)
moved_is_reduced box h moving reduced near = record {
  normal = reduced.normal;
  lowest = λ k x y z d.
      let back : (h.d -ℤ least_over box h) +ℤ least_over box h ≡ h.d = omega (arith, linear) in
      reduced.lowest k x y z (subst (λ (m : ℤ). k ∣ unsigned_abs m) back (divides_sum k (h.d -ℤ least_over box h) (least_over box h) d (divides_along box h k x y z)));
  nx_small = reduced.nx_small;
  ny_small = reduced.ny_small;
  nz_small = reduced.nz_small;
  d_small =
      let small = along_small box h reduced moving.short in
      let difference = abs_difference h.d (least_over box h) in
      omega (arith, near, small, difference);
}

-- ---- sides

pub value_moved : (box : Cuboid) (h : Plane) (x : Point) → value (moved_by box h) x ≡ value h x +ℤ (least_over box h *ℤ x.w)
unfolding value
value_moved box h x = let e = -ℤ-*ℤ h.d (least_over box h) x.w in omega (arith, linear)

-- a point behind a plane is behind it where it is moved
pub behind_moved : (box : Cuboid) (h : Plane) (x : Point) → HasOrigin box → pos 0 <ℤ x.w → IsBehind h x → IsBehind (moved_by box h) x
behind_moved box h x origin weight behind =
    let of_x = least_not_positive h.nx box.x origin.x in
    let of_y = least_not_positive h.ny box.y origin.y in
    let of_z = least_not_positive h.nz box.z origin.z in
    let nearer : least_over box h ≤ℤ pos 0 = omega (arith, linear) in
    let some : pos 0 ≤ℤ x.w = omega (arith, linear) in
    let times = product_not_positive x.w (least_over box h) some nearer in
    let order = *ℤ_comm x.w (least_over box h) in
    let is = value_moved box h x in
    omega (arith, linear)
