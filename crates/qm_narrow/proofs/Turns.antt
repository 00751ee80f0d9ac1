-- What the normals of planes through an edge and around a corner have along other corners: as much as the normal through the
-- nearest whole point, but for a slack.
use Rattle.std.proofs.Common.{◌≡◌, ◌≤◌, ◌*◌, ℤ, pos, neg_ℤ, ◌+ℤ◌, ◌-ℤ◌, ◌*ℤ◌, ◌<ℤ◌, ◌≤ℤ◌, [], ◌∷◌, ap, sym, subst, ◌∙◌, arith, unsigned_abs, ⊎_elim}
use Rattle.std.proofs.lemmas.Int.{ints}
use Rattle.qm_numbers.specs.Rounding.{IsRoundedDown, IsRoundedUp, IsNearest}
use Rattle.qm_numbers.proofs.IntegerProducts.{linear, *ℤ-+ℤ, *ℤ--ℤ, +ℤ-*ℤ, -ℤ-*ℤ, one_*ℤ, *ℤ_one, *ℤ-neg}
use Rattle.qm_numbers.proofs.Signs.{product_not_negative, cancel_less, times_at_most}
use Rattle.qm_numbers.proofs.Ring.{variable, ◌⊕◌, ◌⊖◌, ◌⊗◌, solved}
use Rattle.std.proofs.Math.IntN.{*ℤ_comm}
use Rattle.qm_space.specs.Point.{Point}
use Rattle.qm_space.specs.Vector.{normal_of}
use Rattle.qm_space.specs.ThreePoints.{outward_plane}
use Rattle.qm_geom.specs.Vectors.{direction_of, vector_between, dot}
use Rattle.qm_geom.specs.declared.vector.Vector.{Vector}
use Rattle.qm_separators.specs.WholePoints.{IsRoundedEitherWay}
use Rattle.qm_narrow.specs.declared.reach.Reach.{Reach}
use Rattle.qm_narrow.specs.inner.Turn.{IsWithin, HasSize, part_along, LiesBetween}

-- ---- sizes of products

pub within_product : (n r s w : ℤ) → IsWithin n s → IsWithin r w → IsWithin (n *ℤ r) (s *ℤ w)
within_product n r s w n_in r_in =
    let nl = n_in.low in let nh = n_in.high in let rl = r_in.low in let rh = r_in.high in
    let a = product_not_negative (s -ℤ n) (w +ℤ r) (omega (arith, linear)) (omega (arith, linear)) in
    let b = product_not_negative (s +ℤ n) (w -ℤ r) (omega (arith, linear)) (omega (arith, linear)) in
    let c = product_not_negative (s -ℤ n) (w -ℤ r) (omega (arith, linear)) (omega (arith, linear)) in
    let d = product_not_negative (s +ℤ n) (w +ℤ r) (omega (arith, linear)) (omega (arith, linear)) in
    let a1 = -ℤ-*ℤ s n (w +ℤ r) in let b1 = +ℤ-*ℤ s n (w -ℤ r) in let c1 = -ℤ-*ℤ s n (w -ℤ r) in let d1 = +ℤ-*ℤ s n (w +ℤ r) in
    let e = *ℤ-+ℤ s w r in let f = *ℤ-+ℤ n w r in let g = *ℤ--ℤ s w r in let h = *ℤ--ℤ n w r in
    record { low = omega (arith, linear); high = omega (arith, linear) }

pub within_sum : (a b c s t u : ℤ) → IsWithin a s → IsWithin b t → IsWithin c u → IsWithin ((a +ℤ b) +ℤ c) ((s +ℤ t) +ℤ u)
within_sum a b c s t u x y z =
    let xl = x.low in let xh = x.high in let yl = y.low in let yh = y.high in let zl = z.low in let zh = z.high in
    record { low = omega (arith, linear); high = omega (arith, linear) }

-- of a vector with a size and three numbers that are small
pub dot_within : (n : Vector) (size x y z w : ℤ) → HasSize n size → IsWithin x w → IsWithin y w → IsWithin z w → IsWithin (((n.x *ℤ x) +ℤ (n.y *ℤ y)) +ℤ (n.z *ℤ z)) (size *ℤ w)
dot_within n size x y z w has x_in y_in z_in =
    let e = within_sum (n.x *ℤ x) (n.y *ℤ y) (n.z *ℤ z) (has.of_x *ℤ w) (has.of_y *ℤ w) (has.of_z *ℤ w)
    (within_product n.x x has.of_x w has.x x_in) (within_product n.y y has.of_y w has.y y_in) (within_product n.z z has.of_z w has.z z_in) in
    let f = +ℤ-*ℤ (has.of_x +ℤ has.of_y) has.of_z w in let g = +ℤ-*ℤ has.of_x has.of_y w in
    subst (IsWithin (((n.x *ℤ x) +ℤ (n.y *ℤ y)) +ℤ (n.z *ℤ z)))
    ((let h : ((has.of_x *ℤ w) +ℤ (has.of_y *ℤ w)) +ℤ (has.of_z *ℤ w) ≡ ((has.of_x +ℤ has.of_y) +ℤ has.of_z) *ℤ w = omega (arith, linear) in h) ∙ ap (λ (s : ℤ). s *ℤ w) has.sum) e

-- ---- identities

-- turned, a normal has less along a step by what the normal of the step has along the turn
module _ (n k m : Vector) (at from to q : Point) (x y z : ℤ)
    (n_is : direction_of n ≡ normal_of (outward_plane (record { x = at.x +ℤ x; y = at.y +ℤ y; z = at.z +ℤ z; w = pos 1 }) from to))
    (k_is : direction_of k ≡ normal_of (outward_plane at from to))
    (m_is : direction_of m ≡ normal_of (outward_plane q from to)) where
  pub turned_value : dot n (vector_between from q) ≡ dot k (vector_between from q) -ℤ (((m.x *ℤ x) +ℤ (m.y *ℤ y)) +ℤ (m.z *ℤ z))
  unfolding dot vector_between outward_plane
  turned_value =
      ap (λ (p : Point). ((p.x *ℤ (q.x -ℤ from.x)) +ℤ (p.y *ℤ (q.y -ℤ from.y))) +ℤ (p.z *ℤ (q.z -ℤ from.z))) n_is
      ∙ (let t = variable in
      let a = (t 0 ⊕ t 3) ⊖ t 6 in let b = (t 1 ⊕ t 4) ⊖ t 7 in let c = (t 2 ⊕ t 5) ⊖ t 8 in
      let g = t 0 ⊖ t 6 in let h = t 1 ⊖ t 7 in let i = t 2 ⊖ t 8 in
      let d = t 9 ⊖ t 6 in let e = t 10 ⊖ t 7 in let f = t 11 ⊖ t 8 in
      let u = t 12 ⊖ t 6 in let v = t 13 ⊖ t 7 in let w = t 14 ⊖ t 8 in
      solved (at.x ∷ at.y ∷ at.z ∷ x ∷ y ∷ z ∷ from.x ∷ from.y ∷ from.z ∷ to.x ∷ to.y ∷ to.z ∷ q.x ∷ q.y ∷ q.z ∷ [])
      (((b ⊗ f ⊖ c ⊗ e) ⊗ u ⊕ (c ⊗ d ⊖ a ⊗ f) ⊗ v) ⊕ (a ⊗ e ⊖ b ⊗ d) ⊗ w)
      ((((h ⊗ f ⊖ i ⊗ e) ⊗ u ⊕ (i ⊗ d ⊖ g ⊗ f) ⊗ v) ⊕ (g ⊗ e ⊖ h ⊗ d) ⊗ w) ⊖ (((v ⊗ f ⊖ w ⊗ e) ⊗ t 3 ⊕ (w ⊗ d ⊖ u ⊗ f) ⊗ t 4) ⊕ (u ⊗ e ⊖ v ⊗ d) ⊗ t 5)) tt)
      ∙ (λ j. (((((sym k_is) j).x *ℤ (q.x -ℤ from.x)) +ℤ (((sym k_is) j).y *ℤ (q.y -ℤ from.y))) +ℤ (((sym k_is) j).z *ℤ (q.z -ℤ from.z))) -ℤ (((((sym m_is) j).x *ℤ x) +ℤ (((sym m_is) j).y *ℤ y)) +ℤ (((sym m_is) j).z *ℤ z)))

-- along a point, it has what it has along a whole point near it, and along what is left between both
pub along_parts : (n : Vector) (p q from : Point) → part_along n p ≡ ((part_along n from +ℤ dot n (vector_between from q)) *ℤ p.w) +ℤ (((n.x *ℤ (p.x -ℤ (q.x *ℤ p.w))) +ℤ (n.y *ℤ (p.y -ℤ (q.y *ℤ p.w)))) +ℤ (n.z *ℤ (p.z -ℤ (q.z *ℤ p.w))))
unfolding part_along dot vector_between
along_parts n p q from =
    let t = variable in
    solved (n.x ∷ n.y ∷ n.z ∷ p.x ∷ p.y ∷ p.z ∷ p.w ∷ q.x ∷ q.y ∷ q.z ∷ from.x ∷ from.y ∷ from.z ∷ [])
    ((t 0 ⊗ t 3 ⊕ t 1 ⊗ t 4) ⊕ t 2 ⊗ t 5)
    ((((t 0 ⊗ t 10 ⊕ t 1 ⊗ t 11) ⊕ t 2 ⊗ t 12) ⊕ ((t 0 ⊗ (t 7 ⊖ t 10) ⊕ t 1 ⊗ (t 8 ⊖ t 11)) ⊕ t 2 ⊗ (t 9 ⊖ t 12))) ⊗ t 6 ⊕ ((t 0 ⊗ (t 3 ⊖ t 7 ⊗ t 6) ⊕ t 1 ⊗ (t 4 ⊖ t 8 ⊗ t 6)) ⊕ t 2 ⊗ (t 5 ⊖ t 9 ⊗ t 6))) tt

-- ---- whole numbers near a coordinate

-- the nearest one leaves no more than the denominator, and so does each one around
pub nearest_within : (o u q : ℤ) → pos 0 <ℤ u → IsNearest o u q → IsWithin (o -ℤ (q *ℤ u)) u
nearest_within o u q h is = let n = is.near in record { low = omega (arith, ints); high = omega (arith, ints) }

pub around_within : (o u q : ℤ) → pos 0 <ℤ u → IsRoundedEitherWay o u q → IsWithin (o -ℤ (q *ℤ u)) u
around_within o u q h either = ⊎_elim
    (λ down. let a = down.at_most in let b = down.next in let e = +ℤ-*ℤ q (pos 1) u in let f = one_*ℤ u in record { low = omega (arith, linear); high = omega (arith, linear) })
    (λ up. let a = up.at_least in let b = up.previous in let e = -ℤ-*ℤ q (pos 1) u in let f = one_*ℤ u in record { low = omega (arith, linear); high = omega (arith, linear) })
    either

strictly_down : (o u q : ℤ) → pos 0 <ℤ u → IsRoundedEitherWay o u q → (neg_ℤ u <ℤ (o -ℤ (q *ℤ u))) × ((o -ℤ (q *ℤ u)) <ℤ u)
strictly_down o u q h either = ⊎_elim
    (λ down. let a = down.at_most in let b = down.next in let e = +ℤ-*ℤ q (pos 1) u in let f = one_*ℤ u in (omega (arith, linear), omega (arith, linear)))
    (λ up. let a = up.at_least in let b = up.previous in let e = -ℤ-*ℤ q (pos 1) u in let f = one_*ℤ u in (omega (arith, linear), omega (arith, linear)))
    either

-- a number less than 2 by a denominator is at most 1
less_than_two : (u r : ℤ) → pos 0 <ℤ u → (neg_ℤ (u +ℤ u) <ℤ (r *ℤ u)) → ((r *ℤ u) <ℤ (u +ℤ u)) → IsWithin r (pos 1)
less_than_two u r h low high =
    let e = *ℤ_comm u r in
    let two = *ℤ-+ℤ u (pos 1) (pos 1) in let one = *ℤ_one u in let minus = *ℤ-neg u (pos 1 +ℤ pos 1) in
    let a = cancel_less u r (pos 1 +ℤ pos 1) h (omega (arith, linear)) in
    let b = cancel_less u (neg_ℤ (pos 1 +ℤ pos 1)) r h (omega (arith, linear)) in
    record { low = omega (arith, linear); high = omega (arith, linear) }

pub around_near : (o u q r : ℤ) → pos 0 <ℤ u → IsNearest o u q → IsRoundedEitherWay o u r → IsWithin (r -ℤ q) (pos 1)
around_near o u q r h near around =
    let a = strictly_down o u r h around in let b = nearest_half in let e = -ℤ-*ℤ r q u in
    less_than_two u (r -ℤ q) h (let al = a.0 in let ah = a.1 in let bl = b.low in let bh = b.high in omega (arith, linear)) (let al = a.0 in let ah = a.1 in let bl = b.low in let bh = b.high in omega (arith, linear))
  where
    nearest_half : IsWithin (o -ℤ (q *ℤ u)) u
    nearest_half = nearest_within o u q h near

zero_by : (u r : ℤ) → pos 0 <ℤ u → neg_ℤ u <ℤ (r *ℤ u) → (r *ℤ u) <ℤ u → r ≡ pos 0
zero_by u r h low high =
    let e = *ℤ_comm u r in
    let one = *ℤ_one u in let minus = *ℤ-neg u (pos 1) in
    let a = cancel_less u r (pos 1) h (omega (arith, linear)) in
    let b = cancel_less u (neg_ℤ (pos 1)) r h (omega (arith, linear)) in
    omega (arith, linear)

less_than_half : (o q u : ℤ) → pos 0 <ℤ u → 2 * unsigned_abs (o -ℤ q) ≤ unsigned_abs u → (neg_ℤ u <ℤ (o -ℤ q)) × ((o -ℤ q) <ℤ u)
less_than_half o q u h n = (omega (arith, ints), omega (arith, ints))

-- where a coordinate is the same rounded down and up, the nearest whole number and each one around it are that coordinate
module _ (o u below above : ℤ) (h : pos 0 <ℤ u) (down : IsRoundedDown o u below) (up : IsRoundedUp o u above) (same : below ≡ above) where
  fixed_value : o ≡ below *ℤ u
  fixed_value = let a = down.at_most in let b = up.at_least in let e = ap (λ (z : ℤ). z *ℤ u) same in omega (arith, linear)

  fixed_nearest : (q : ℤ) → IsNearest o u q → below -ℤ q ≡ pos 0
  fixed_nearest q near =
      let e = fixed_value in let l = less_than_half o (q *ℤ u) u h near.near in let a = l.0 in let b = l.1 in let f = -ℤ-*ℤ below q u in
      zero_by u (below -ℤ q) h (omega (arith, linear)) (omega (arith, linear))

  pub fixed_rest : (q : ℤ) → IsNearest o u q → o -ℤ (q *ℤ u) ≡ pos 0
  fixed_rest q near =
      let e = fixed_value in let z = fixed_nearest q near in let s : below ≡ q = omega (arith, linear) in let f = ap (λ (k : ℤ). k *ℤ u) s in omega (arith, linear)

  pub fixed_around : (q r : ℤ) → IsNearest o u q → IsRoundedEitherWay o u r → r -ℤ q ≡ pos 0
  fixed_around q r near around =
      let e = fixed_value in let z = fixed_nearest q near in let l = strictly_down o u r h around in let a = l.0 in let b = l.1 in let f = -ℤ-*ℤ below r u in
      let y = zero_by u (below -ℤ r) h (omega (arith, linear)) (omega (arith, linear)) in
      omega (arith, linear)

  pub fixed_around_rest : (r : ℤ) → IsRoundedEitherWay o u r → o -ℤ (r *ℤ u) ≡ pos 0
  fixed_around_rest r around =
      let e = fixed_value in let l = strictly_down o u r h around in let a = l.0 in let b = l.1 in let f = -ℤ-*ℤ below r u in
      let y = zero_by u (below -ℤ r) h (omega (arith, linear)) (omega (arith, linear)) in
      let s : below ≡ r = omega (arith, linear) in let g = ap (λ (k : ℤ). k *ℤ u) s in omega (arith, linear)

-- ---- a point between two distances

module _ (n : Vector) (p q from : Point) (weight : pos 0 <ℤ p.w) (low high slack : ℤ) where
  pub lies_by : low ≤ℤ dot n (vector_between from q) → dot n (vector_between from q) ≤ℤ high →
      IsWithin (((n.x *ℤ (p.x -ℤ (q.x *ℤ p.w))) +ℤ (n.y *ℤ (p.y -ℤ (q.y *ℤ p.w)))) +ℤ (n.z *ℤ (p.z -ℤ (q.z *ℤ p.w)))) (slack *ℤ p.w) →
      (reach : Reach) → reach.low ≡ low -ℤ slack → reach.high ≡ high +ℤ slack → LiesBetween n (part_along n from) reach p
  lies_by low_is high_is rest reach reach_low reach_high =
      let e = along_parts n p q from in
      let base = part_along n from in let value = dot n (vector_between from q) in
      let rl = rest.low in let rh = rest.high in
      let a = times_at_most p.w (low +ℤ base) (base +ℤ value) (omega (arith, linear)) (omega (arith, linear)) in
      let b = times_at_most p.w (base +ℤ value) (high +ℤ base) (omega (arith, linear)) (omega (arith, linear)) in
      let c = *ℤ_comm p.w (low +ℤ base) in let d = *ℤ_comm p.w (base +ℤ value) in let f = *ℤ_comm p.w (high +ℤ base) in
      let g = -ℤ-*ℤ (low +ℤ base) slack p.w in let h = +ℤ-*ℤ (high +ℤ base) slack p.w in
      let i : reach.low +ℤ base ≡ (low +ℤ base) -ℤ slack = omega (arith, linear) in
      let j : reach.high +ℤ base ≡ (high +ℤ base) +ℤ slack = omega (arith, linear) in
      let k = ap (λ (z : ℤ). z *ℤ p.w) i in let l = ap (λ (z : ℤ). z *ℤ p.w) j in
      record { weight = weight; low = omega (arith, linear); high = omega (arith, linear) }
