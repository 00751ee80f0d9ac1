-- The corners that a cut makes: where a plane crosses an edge.
use Rattle.std.proofs.Common.{◌≡◌, ℕ, ℤ, pos, neg_ℤ, ◌+ℤ◌, ◌*ℤ◌, ◌<ℤ◌, ◌≤ℤ◌, [], length, ap₂, sym, ◌∙◌, arith}
use Rattle.qm_space.specs.Point.{Point}
use Rattle.qm_space.specs.Plane.{Plane, value}
use Rattle.qm_space.specs.Determinant.{determinant}
use Rattle.qm_space.specs.Meet.{meet}
use Rattle.qm_numbers.proofs.IntegerProducts.{linear}
use Rattle.qm_numbers.proofs.Signs.{product_positive, product_not_negative, positive_beside, not_negative_beside}
use Rattle.qm_numbers.proofs.Ring.{number, negated, ◌⊕◌, ◌⊖◌, ◌⊗◌, solved}
use Rattle.qm_space.proofs.PlaneSymbols.{plane_from, point_from, numbers_of_plane, numbers_of_point, symbol_value, symbol_meet}
use Rattle.qm_space.proofs.Planes.{first_holds_meet, second_holds_meet, third_holds_meet}
use Rattle.qm_space.proofs.Exchange.{line_factor}
use Rattle.qm_convex.specs.Winding.{Winding, next_place, edge_at, corner_at}
use Rattle.qm_convex.proofs.Corners.{value_on_edge}

-- to exchange the first and the last plane turns the sign
pub line_factor_exchanged : (h e g b : Plane) → value b (meet h e g) ≡ neg_ℤ (value g (meet h e b))
unfolding value meet determinant
line_factor_exchanged h e g b =
    let k = plane_from 0 in let l = plane_from 4 in let m = plane_from 8 in let n = plane_from 12 in
    solved (numbers_of_plane h (numbers_of_plane e (numbers_of_plane g (numbers_of_plane b [])))) (symbol_value n (symbol_meet k l m)) (negated (symbol_value m (symbol_meet k l n))) tt

pub line_factor_turned : (h e g a : Plane) → value a (meet h g e) ≡ neg_ℤ (value g (meet h a e))
unfolding value meet determinant
line_factor_turned h e g a =
    let k = plane_from 0 in let l = plane_from 4 in let m = plane_from 8 in let n = plane_from 12 in
    solved (numbers_of_plane h (numbers_of_plane e (numbers_of_plane g (numbers_of_plane a [])))) (symbol_value n (symbol_meet k m l)) (negated (symbol_value m (symbol_meet k n l))) tt

-- a point's w is a plane's value there
pub far_plane : Plane
far_plane = record { nx = pos 0; ny = pos 0; nz = pos 0; d = neg_ℤ (pos 1) }

pub value_far_plane : (p : Point) → value far_plane p ≡ p.w
unfolding far_plane value
value_far_plane p =
    let q = point_from 0 in let z = number (pos 0) in
    solved (numbers_of_point p []) (z ⊗ q.x ⊕ z ⊗ q.y ⊕ z ⊗ q.z ⊖ number (neg_ℤ (pos 1)) ⊗ q.w) q.w tt

module _ (v : Winding) (g : Plane) (j : ℕ) where
  -- the edge after the place j, and the two corners at its ends
  abbrev after : ℕ
  after = next_place (length v.edges) j

  abbrev near : Point
  near = corner_at v j

  abbrev far : Point
  far = corner_at v after

  -- where the plane crosses the edge, on the way out of its front or into it
  abbrev pub leaving : Point
  leaving = meet v.plane (edge_at v after) g

  abbrev pub entering : Point
  entering = meet v.plane g (edge_at v after)

  -- any plane's value there is made of its values at the edge's two corners

  pub value_leaving : (f : Plane) → value (edge_at v j) far *ℤ value f leaving ≡ (value g near *ℤ value f far) +ℤ (neg_ℤ (value g far) *ℤ value f near)
  unfolding corner_at
  value_leaving f =
      let n = length v.edges in
      let h = v.plane in
      let a = edge_at v j in
      let e = edge_at v after in
      let b = edge_at v (next_place n after) in
      value_on_edge v f j leaving (first_holds_meet h e g) (second_holds_meet h e g)
      ∙ ap₂ (λ s t. (s *ℤ value f far) +ℤ (t *ℤ value f near)) (line_factor h a e g) (line_factor_exchanged h e g b)

  pub value_entering : (f : Plane) → value (edge_at v j) far *ℤ value f entering ≡ (neg_ℤ (value g near) *ℤ value f far) +ℤ (value g far *ℤ value f near)
  unfolding corner_at
  value_entering f =
      let n = length v.edges in
      let h = v.plane in
      let a = edge_at v j in
      let e = edge_at v after in
      let b = edge_at v (next_place n after) in
      value_on_edge v f j entering (first_holds_meet h g e) (third_holds_meet h g e)
      ∙ ap₂ (λ s t. (s *ℤ value f far) +ℤ (t *ℤ value f near)) (line_factor_turned h e g a) (sym (line_factor h g e b))

-- ---- the signs of a sum of two products over a positive factor

-- the first product is positive
pub by_first : (x z a p b q : ℤ) → x *ℤ z ≡ (a *ℤ p) +ℤ (b *ℤ q) → pos 0 <ℤ x → pos 0 <ℤ a → pos 0 <ℤ p → pos 0 ≤ℤ b → pos 0 ≤ℤ q → pos 0 <ℤ z
by_first x z a p b q e h i j k l =
    let m = product_positive a p i j in
    let n = product_not_negative b q k l in
    positive_beside x z h (omega (arith, linear))

-- the second product is positive
pub by_second : (x z a p b q : ℤ) → x *ℤ z ≡ (a *ℤ p) +ℤ (b *ℤ q) → pos 0 <ℤ x → pos 0 ≤ℤ a → pos 0 ≤ℤ p → pos 0 <ℤ b → pos 0 <ℤ q → pos 0 <ℤ z
by_second x z a p b q e h i j k l =
    let m = product_not_negative a p i j in
    let n = product_positive b q k l in
    positive_beside x z h (omega (arith, linear))

-- neither is negative
pub by_neither : (x z a p b q : ℤ) → x *ℤ z ≡ (a *ℤ p) +ℤ (b *ℤ q) → pos 0 <ℤ x → pos 0 ≤ℤ a → pos 0 ≤ℤ p → pos 0 ≤ℤ b → pos 0 ≤ℤ q → pos 0 ≤ℤ z
by_neither x z a p b q e h i j k l =
    let m = product_not_negative a p i j in
    let n = product_not_negative b q k l in
    not_negative_beside x z h (omega (arith, linear))
