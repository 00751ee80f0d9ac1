-- The least distance at which corners are not in front of a plane.
use Rattle.std.proofs.Common.{◌≡◌, ℕ, ◌+◌, ◌≤◌, ◌<◌, ℤ, pos, ◌-ℤ◌, ◌*ℤ◌, ◌≤ℤ◌, ◌<ℤ◌, List, get_or, length, take, refl, sym, subst, arith}
use Rattle.std.specs.Int.{int_max}
use Rattle.std.specs.List.{All, Any}
use Rattle.std.proofs.lemmas.Int.{ints, clamps}
use Rattle.std.proofs.lemmas.List.{take_all}
use Rattle.std.proofs.lemmas.List.Elements.{All-nil, All-more}
use Rattle.std.proofs.Math.IntN.{*ℤ_comm}
use Rattle.qm_numbers.specs.Rounding.{IsRoundedUp}
use Rattle.qm_numbers.proofs.IntegerProducts.{linear}
use Rattle.qm_numbers.proofs.Signs.{by_least, times_at_most}
use Rattle.qm_space.specs.Point.{Point}
use Rattle.qm_space.specs.Plane.{value, IsInFront}
use Rattle.qm_space.specs.LeastDistance.{plane_at_distance, product_along, IsLeastDistance}
use Rattle.qm_space.specs.inner.LeastDistanceOf.{IsLeastDistanceOf}

-- the distance is taken off the product along the normal
pub value_at_distance : (normal : List ℤ) (d : ℤ) (p : Point) → value (plane_at_distance normal d) p ≡ product_along normal p -ℤ (d *ℤ p.w)
unfolding value product_along
value_at_distance normal d p = refl

pub up_is_least : (normal : List ℤ) (p : Point) (q : ℤ) → pos 0 <ℤ p.w → IsRoundedUp (product_along normal p) p.w q → IsLeastDistanceOf normal p q
up_is_least normal p q h r = record {
  not_in_front = λ d l.
      let e = value_at_distance normal d p in let t = times_at_most p.w q d (omega (arith, linear)) l in
      let f = *ℤ_comm p.w q in let g = *ℤ_comm p.w d in let u = r.at_least in
      omega (arith, linear);
  in_front = λ d l.
      let e = value_at_distance normal d p in let t = times_at_most p.w d (q -ℤ pos 1) (omega (arith, linear)) (omega (arith, linear)) in
      let f = *ℤ_comm p.w (q -ℤ pos 1) in let g = *ℤ_comm p.w d in let u = r.previous in
      omega (arith, linear);
}

-- ---- of several corners, one after another

-- as far as the first i corners: none of them is in front at this distance or beyond, and some corner is before it
pub record IsLeastSoFar (normal : List ℤ) (corners : List Point) (i : ℕ) (least : ℤ) : Type 0 where
  pub none_in_front : (d : ℤ) → least ≤ℤ d → All (λ p. value (plane_at_distance normal d) p ≤ℤ pos 0) (take i corners)
  pub some_in_front : (d : ℤ) → d <ℤ least → Any (λ p. IsInFront (plane_at_distance normal d) p) corners

pub so_far_begun : (normal : List ℤ) (corners : List Point) (p : Point) (least : ℤ) → p ≡ get_or corners 0 p → 0 < length corners → IsLeastDistanceOf normal p least → IsLeastSoFar normal corners 0 least
so_far_begun normal corners p least e h l = record {
  none_in_front = λ d k. All-nil (λ p. value (plane_at_distance normal d) p ≤ℤ pos 0);
  some_in_front = λ d k. (0, p, h, sym e, l.in_front d k);
}

left_at_most : (a b : ℤ) → a ≤ℤ int_max a b
left_at_most a b = omega (arith, ints, clamps)

right_at_most : (a b : ℤ) → b ≤ℤ int_max a b
right_at_most a b = omega (arith, ints, clamps)

-- the greater of two numbers is one of them
by_greater : {P : Type 0} (a b : ℤ) → (int_max a b ≡ a → P) → (int_max a b ≡ b → P) → P
by_greater a b f g = by_least a b (λ h. g (omega (arith, ints, clamps))) (λ h. f (omega (arith, ints, clamps)))

pub so_far_gained : (normal : List ℤ) (corners : List Point) (i : ℕ) (p : Point) (least next : ℤ) → p ≡ get_or corners i p → i < length corners → IsLeastSoFar normal corners i least → IsLeastDistanceOf normal p next → IsLeastSoFar normal corners (i + 1) (int_max least next)
so_far_gained normal corners i p least next e h s l = record {
  none_in_front = λ d k.
      let x = left_at_most least next in let y = right_at_most least next in
      All-more (λ p. value (plane_at_distance normal d) p ≤ℤ pos 0) corners i p h (s.none_in_front d (omega (arith, linear)))
      (subst (λ (q : Point). value (plane_at_distance normal d) q ≤ℤ pos 0) e (l.not_in_front d (omega (arith, linear))));
  some_in_front = λ d k.
      by_greater least next
      (λ g. s.some_in_front d (omega (arith, linear)))
      (λ g. (i, p, h, sym e, l.in_front d (omega (arith, linear))));
}

pub so_far_ended : (normal : List ℤ) (corners : List Point) (i : ℕ) (least : ℤ) → length corners ≤ i → IsLeastSoFar normal corners i least → IsLeastDistance normal corners least
so_far_ended normal corners i least h s = record {
  none_in_front = λ d k.
      subst (λ (ps : List Point). All (λ p. value (plane_at_distance normal d) p ≤ℤ pos 0) ps) (take_all i corners h) (s.none_in_front d k);
  some_in_front = s.some_in_front;
}
