-- Spans and cuboids that are tightened, as the code keeps their numbers.
use Rattle.std.proofs.Common.{◌≡◌, ◌≤◌, ◌^◌, ◌∙◌, ℤ, pos, negsuc, neg_ℤ, ◌+ℤ◌, ◌-ℤ◌, ◌*ℤ◌, ◌<ℤ◌, w32, w64, ap, subst, arith, lit≤, unsigned_abs}
use Rattle.std.proofs.lemmas.Int.{ints}
use Rattle.std.proofs.Math.IntN.{*ℤ_comm}
use Rattle.qm_numbers.specs.Rounding.{IsRoundedDown}
use Rattle.qm_numbers.proofs.IntegerProducts.{linear, one_*ℤ, neg-*ℤ}
use Rattle.qm_numbers.proofs.Bits.{kept_32, kept_64, negated_64}
use Rattle.qm_numbers.proofs.Kept.{kept, three_less_one_kept, one_less_two_kept}
use Rattle.qm_numbers.proofs.Signs.{abs_sum, abs_difference}
use Rattle.qm_space.specs.Bounds.{normal_bound, distance_bound, product_bound}
use Rattle.qm_space.specs.Plane.{Plane}
use Rattle.qm_space.specs.Cuboid.{Stretch, IsTightenedStretch, IsTightenedBetween}
use Rattle.qm_space.proofs.Cuboids.{tightened_multiple}
use Rattle.qm_geom.specs.declared.vector.Vector.{Vector}
use Rattle.qm_geom.specs.Vectors.{HasSmallComponents}
use Rattle.qm_geom.specs.inner.Products.{sum_less, left_of}

-- a component as the code widens it
widened : (f n : ℤ) → unsigned_abs n ≤ normal_bound → f ≡ kept w32 n → f ≡ n
widened f n h e = e ∙ kept_32 n normal_bound h (lit≤ tt)

component_kept : (f n : ℤ) → unsigned_abs n ≤ normal_bound → f ≡ kept w32 n → kept w64 f ≡ n
component_kept f n h e = ap (λ (z : ℤ). kept w64 z) (widened f n h e) ∙ kept_64 n normal_bound h (lit≤ tt)

component_turned : (f n : ℤ) → unsigned_abs n ≤ normal_bound → f ≡ kept w32 n → kept w64 (pos 0 -ℤ kept w64 f) ≡ neg_ℤ n
component_turned f n h e = ap (λ (z : ℤ). kept w64 (pos 0 -ℤ kept w64 z)) (widened f n h e) ∙ negated_64 n normal_bound h (lit≤ tt)

module _ (t stretch : Stretch) (n least q f : ℤ) (n_small : unsigned_abs n ≤ normal_bound) (least_small : unsigned_abs least ≤ 2 ^ 45) (q_small : unsigned_abs q ≤ 2 ^ 45) (same : f ≡ kept w32 n) where
  pub from_quotient : pos 0 <ℤ n → IsRoundedDown (kept w64 least) (kept w64 f) q → IsTightenedStretch t stretch (pos 1) (kept w64 q) → IsTightenedStretch t stretch n least
  from_quotient p r k =
      subst (λ (m : ℤ). IsTightenedStretch t stretch m least) (*ℤ_comm n (pos 1) ∙ one_*ℤ n)
      (tightened_multiple t stretch (pos 1) n q least p
      (rw (component_kept f n n_small same, kept_64 least (2 ^ 45) least_small (lit≤ tt)) at r.at_most)
      (rw (kept_64 q (2 ^ 45) q_small (lit≤ tt)) at k))

  pub up_to_quotient : n <ℤ pos 0 → IsRoundedDown (kept w64 least) (kept w64 (pos 0 -ℤ kept w64 f)) q → IsTightenedStretch t stretch (negsuc 0) (neg_ℤ (kept w64 (pos 0 -ℤ kept w64 q))) → IsTightenedStretch t stretch n least
  up_to_quotient p r k =
      subst (λ (m : ℤ). IsTightenedStretch t stretch m least) turned
      (tightened_multiple t stretch (negsuc 0) (neg_ℤ n) q least (omega (arith, ints))
      (rw (component_turned f n n_small same, kept_64 least (2 ^ 45) least_small (lit≤ tt)) at r.at_most)
      (subst (λ (m : ℤ). IsTightenedStretch t stretch (negsuc 0) m) (ap neg_ℤ (negated_64 q (2 ^ 45) q_small (lit≤ tt)) ∙ twice q) k))
    where
      twice : (z : ℤ) → neg_ℤ (neg_ℤ z) ≡ z
      twice z = omega (arith, ints)

      turned : neg_ℤ n *ℤ negsuc 0 ≡ n
      turned = let e = *ℤ_comm (neg_ℤ n) (negsuc 0) in let g = neg-*ℤ (pos 1) (neg_ℤ n) in let o = one_*ℤ (neg_ℤ n) in omega (arith, linear)

-- ---- sums of products

distance_is : (g h : Plane) → unsigned_abs g.d ≤ distance_bound → g ≡ h → kept w64 g.d ≡ h.d
distance_is g h small same = kept_64 g.d distance_bound small (lit≤ tt) ∙ ap (λ (p : Plane). p.d) same

pub value_is : (g h : Plane) (r : ℤ) (p q : Vector) → unsigned_abs r ≤ 2 ^ 45 → unsigned_abs g.d ≤ distance_bound → g ≡ h → p ≡ q → r ≡ sum_less p (kept w64 g.d) → kept w64 r ≡ sum_less q h.d
value_is g h r p q r_small d_small same e f =
    kept_64 r (2 ^ 45) r_small (lit≤ tt) ∙ f ∙ (λ i. sum_less (e i) (distance_is g h d_small same i))

pub left_is : (g h : Plane) (r p q : Vector) → unsigned_abs g.d ≤ distance_bound → g ≡ h → p ≡ q → r ≡ left_of p (kept w64 g.d) → r ≡ left_of q h.d
left_is g h r p q d_small same e f = f ∙ (λ i. left_of (e i) (distance_is g h d_small same i))

pub sum_less_kept : (p : Vector) (d : ℤ) → HasSmallComponents p (product_bound) → unsigned_abs d ≤ distance_bound →
    kept w64 (kept w64 (kept w64 (kept w64 p.x +ℤ kept w64 p.y) +ℤ kept w64 p.z) -ℤ kept w64 d) ≡ sum_less p d
sum_less_kept p d s h =
    let x = s.x_small in let y = s.y_small in let z = s.z_small in
    three_less_one_kept p.x p.y p.z d (omega arith) (omega arith) (omega arith) (omega arith)

pub sum_less_small : (p : Vector) (d : ℤ) → HasSmallComponents p (product_bound) → unsigned_abs d ≤ distance_bound → unsigned_abs (sum_less p d) ≤ 2 ^ 45
sum_less_small p d s h =
    let x = s.x_small in let y = s.y_small in let z = s.z_small in
    let a = abs_sum p.x p.y in let b = abs_sum (p.x +ℤ p.y) p.z in let c = abs_difference ((p.x +ℤ p.y) +ℤ p.z) d in
    omega arith

one_left_small : (d a b : ℤ) → unsigned_abs d ≤ distance_bound → unsigned_abs a ≤ product_bound → unsigned_abs b ≤ product_bound → unsigned_abs ((d -ℤ a) -ℤ b) ≤ 2 ^ 45
one_left_small d a b h k l = let s = abs_difference d a in let t = abs_difference (d -ℤ a) b in omega arith

pub left_kept : (p : Vector) (d : ℤ) → HasSmallComponents p (product_bound) → unsigned_abs d ≤ distance_bound →
    record { x = kept w64 (kept w64 (kept w64 d -ℤ kept w64 p.y) -ℤ kept w64 p.z); y = kept w64 (kept w64 (kept w64 d -ℤ kept w64 p.z) -ℤ kept w64 p.x); z = kept w64 (kept w64 (kept w64 d -ℤ kept w64 p.x) -ℤ kept w64 p.y) } ≡ left_of p d
left_kept p d s h =
    let x = s.x_small in let y = s.y_small in let z = s.z_small in
    λ i. record {
      x = one_less_two_kept d p.y p.z (omega arith) (omega arith) (omega arith) i;
      y = one_less_two_kept d p.z p.x (omega arith) (omega arith) (omega arith) i;
      z = one_less_two_kept d p.x p.y (omega arith) (omega arith) (omega arith) i;
    }

pub left_small : (p : Vector) (d : ℤ) → HasSmallComponents p (product_bound) → unsigned_abs d ≤ distance_bound → HasSmallComponents (left_of p d) (2 ^ 45)
left_small p d s h = record {
  x_small = one_left_small d p.y p.z h s.y_small s.z_small;
  y_small = one_left_small d p.z p.x h s.z_small s.x_small;
  z_small = one_left_small d p.x p.y h s.x_small s.y_small;
}

-- ---- stretches by the numbers of a plane

pub tightened_same : (t s s' : Stretch) (n n' z z' : ℤ) → s ≡ s' → n ≡ n' → z ≡ z' → IsTightenedStretch t s n z → IsTightenedStretch t s' n' z'
tightened_same t s s' n n' z z' e f g k =
    subst (λ (u : Stretch). IsTightenedStretch t u n' z') e (subst (λ (m : ℤ). IsTightenedStretch t s m z') f (subst (λ (y : ℤ). IsTightenedStretch t s n y) g k))

pub between_same : (t s s' : Stretch) (n n' z z' y y' : ℤ) → s ≡ s' → n ≡ n' → z ≡ z' → y ≡ y' → IsTightenedBetween t s n z y → IsTightenedBetween t s' n' z' y'
between_same t s s' n n' z z' y y' e f g h k =
    subst (λ (u : Stretch). IsTightenedBetween t u n' z' y') e
    (subst (λ (m : ℤ). IsTightenedBetween t s m z' y') f
    (subst (λ (x : ℤ). IsTightenedBetween t s n x y') g (subst (λ (x : ℤ). IsTightenedBetween t s n z x) h k)))
