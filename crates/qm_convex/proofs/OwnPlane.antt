-- A winding lies in no plane but its own, turned to either side.
use Rattle.std.proofs.Common.{refl, ◌≡◌, ℕ, ◌<◌, ℤ, pos, neg_ℤ, ◌+ℤ◌, ◌*ℤ◌, ◌<ℤ◌, ◌≤ℤ◌, length, ap, sym, ◌∙◌, arith, ◌⊎◌, ⊎_elim}
use Rattle.std.proofs.Math.IntN.{*ℤ_comm}
use Rattle.qm_numbers.proofs.IntegerProducts.{linear, *ℤ_zero, zero_*ℤ}
use Rattle.qm_numbers.proofs.Signs.{zero_beside}
use Rattle.qm_space.specs.Point.{Point}
use Rattle.qm_space.specs.Plane.{Plane, value, flipped, scaled}
use Rattle.qm_space.specs.Meet.{meet}
use Rattle.qm_space.specs.Reduced.{IsReduced}
use Rattle.qm_space.proofs.Planes.{value_flipped, value_by_meet, value_at_units}
use Rattle.qm_space.proofs.ReducedPlanes.{same_plane, multiples_same_plane}
use Rattle.qm_convex.specs.Winding.{Winding, next_place, edge_at, corner_at, IsConvex}
use Rattle.qm_convex.specs.Sides.{HasNoneInFront, IsWhollyInFront, LiesIn, HasCornersOn}
use Rattle.qm_convex.proofs.Places.{next_below, next_other, next_next_other, place_before}
use Rattle.qm_convex.proofs.Corners.{corner_on_plane, corner_on_edge, corner_on_next, far_corner_in_front}
use Rattle.qm_convex.proofs.Central.{none_in_front, wholly_in_front, lies_in, by_corner_in_front}

-- ---- a plane that holds all corners is a multiple of the winding's own

-- a product with a number above 0 is 0 only where the other factor is
gone : (b z : ℤ) → pos 0 <ℤ z → b *ℤ z ≡ pos 0 → b ≡ pos 0
gone b z h e = zero_beside z b (λ f. absurd (omega (arith, linear))) (*ℤ_comm z b ∙ e)

times_zero : (k z : ℤ) → z ≡ pos 0 → k *ℤ z ≡ pos 0
times_zero k z e = ap (λ n. k *ℤ n) e ∙ *ℤ_zero k

zero_times : (k z : ℤ) → k ≡ pos 0 → k *ℤ z ≡ pos 0
zero_times k z e = ap (λ n. n *ℤ z) e ∙ zero_*ℤ z

module _ (v : Winding) (g : Plane) (c : IsConvex v) (on : HasCornersOn v g) where
  abbrev n : ℕ
  n = length v.edges

  abbrev second : ℕ
  second = next_place n 0

  abbrev a : Plane
  a = edge_at v 0

  abbrev b : Plane
  b = edge_at v second

  enough : 0 < n
  enough = let e = c.enough in omega arith

  second_below : second < n
  second_below = next_below n 0 enough

  -- the value at any point, of which the three corners leave one part
  spread : (p : Point) → (meet v.plane a b).w *ℤ value g p ≡ ((p.w *ℤ value g (corner_at v 0)) +ℤ (((meet g a b).w *ℤ value v.plane p) +ℤ ((meet v.plane g b).w *ℤ value a p))) +ℤ ((meet v.plane a g).w *ℤ value b p)
  unfolding corner_at
  spread p = value_by_meet g v.plane a b p

  weight : pos 0 <ℤ (meet v.plane a b).w
  unfolding corner_at
  weight = c.weight 0 enough

  no_first : (meet v.plane g b).w ≡ pos 0
  no_first =
      let p = corner_at v second in
      let s = spread p in
      let i = times_zero (meet v.plane a b).w (value g p) (on second second_below) in
      let j = times_zero p.w (value g (corner_at v 0)) (on 0 enough) in
      let k = times_zero (meet g a b).w (value v.plane p) (corner_on_plane v second) in
      let l = times_zero (meet v.plane a g).w (value b p) (corner_on_edge v second) in
      gone (meet v.plane g b).w (value a p) (far_corner_in_front v c 0 enough) (omega (arith, linear))

  no_second : (meet v.plane a g).w ≡ pos 0
  no_second =
      let before = place_before n 0 enough in
      let p = corner_at v before.0 in
      let s = spread p in
      let i = times_zero (meet v.plane a b).w (value g p) (on before.0 before.1) in
      let j = times_zero p.w (value g (corner_at v 0)) (on 0 enough) in
      let k = times_zero (meet g a b).w (value v.plane p) (corner_on_plane v before.0) in
      let f : value a p ≡ pos 0 = ap (λ m. value (edge_at v m) p) (sym before.2) ∙ corner_on_next v before.0 in
      let l = times_zero (meet v.plane g b).w (value a p) f in
      gone (meet v.plane a g).w (value b p)
      (c.inside before.0 second before.1 second_below
      (λ e. next_next_other n 0 c.enough enough (ap (next_place n) e ∙ before.2))
      (λ e. next_other n 0 (let m = c.enough in omega arith) enough (e ∙ before.2)))
      (omega (arith, linear))

  one_part : (p : Point) → (meet v.plane a b).w *ℤ value g p ≡ (meet g a b).w *ℤ value v.plane p
  one_part p =
      let s = spread p in
      let j = times_zero p.w (value g (corner_at v 0)) (on 0 enough) in
      let k = zero_times (meet v.plane g b).w (value a p) no_first in
      let l = zero_times (meet v.plane a g).w (value b p) no_second in
      omega (arith, linear)

  own_multiple : scaled (meet v.plane a b).w g ≡ scaled (meet g a b).w v.plane
  own_multiple =
      let k = (meet v.plane a b).w in
      let m = (meet g a b).w in
      let s = value_at_units g in
      let t = value_at_units v.plane in
      same_plane (scaled k g) (scaled m v.plane)
      (ap (λ z. k *ℤ z) (sym s.0) ∙ one_part (record { x = pos 1; y = pos 0; z = pos 0; w = pos 0 }) ∙ ap (λ z. m *ℤ z) t.0)
      (ap (λ z. k *ℤ z) (sym s.1) ∙ one_part (record { x = pos 0; y = pos 1; z = pos 0; w = pos 0 }) ∙ ap (λ z. m *ℤ z) t.1)
      (ap (λ z. k *ℤ z) (sym s.2) ∙ one_part (record { x = pos 0; y = pos 0; z = pos 1; w = pos 0 }) ∙ ap (λ z. m *ℤ z) t.2)
      (ap (λ z. k *ℤ z) (sym s.3) ∙ one_part (record { x = pos 0; y = pos 0; z = pos 0; w = neg_ℤ (pos 1) }) ∙ ap (λ z. m *ℤ z) t.3)

  own_plane : IsReduced g → IsReduced v.plane → (g ≡ v.plane) ⊎ (g ≡ flipped v.plane)
  own_plane r s = multiples_same_plane (meet v.plane a b).w (meet g a b).w g v.plane some other own_multiple r s
    where
      some : (meet v.plane a b).w ≡ pos 0 → ⊥
      some e = let w = weight in absurd (omega (arith, linear))

      other : (meet g a b).w ≡ pos 0 → ⊥
      other e = r.normal (part (λ h. h.nx) (λ k h. refl)) (part (λ h. h.ny) (λ k h. refl)) (part (λ h. h.nz) (λ k h. refl))
        where
          part : (number : Plane → ℤ) → ((k : ℤ) (h : Plane) → number (scaled k h) ≡ k *ℤ number h) → number g ≡ pos 0
          part number times =
              zero_beside (meet v.plane a b).w (number g) some
              (sym (times (meet v.plane a b).w g) ∙ ap number own_multiple ∙ times (meet g a b).w v.plane ∙ zero_times (meet g a b).w (number v.plane) e)

-- ---- a winding lies in its own plane, to either side, and in no other

pub lies_in_own : (v : Winding) (g : Plane) → IsConvex v → IsReduced g → IsReduced v.plane → LiesIn v g → (g ≡ v.plane) ⊎ (g ≡ flipped v.plane)
lies_in_own v g c r s l = own_plane v g c ((lies_in v g c).0 l) r s

pub own_lies_in : (v : Winding) (g : Plane) → (g ≡ v.plane) ⊎ (g ≡ flipped v.plane) → LiesIn v g
own_lies_in v g e p r = ⊎_elim
    (λ same. ap (λ (h : Plane). value h p) same ∙ r.on)
    (λ turned. ap (λ (h : Plane). value h p) turned ∙ value_flipped v.plane p ∙ (let o = r.on in omega (arith, linear)))
    e

-- a winding that has no point behind a plane, and does not lie in it, is wholly in front of it
pub beside : (v : Winding) (g : Plane) → IsConvex v → HasNoneInFront v (flipped g) → (LiesIn v g → ⊥) → IsWhollyInFront v g
beside v g c none out = by_corner_in_front v g
    (λ some. (wholly_in_front v g c).1 ((λ i h. not_behind i h), some))
    (λ front. absurd (out ((lies_in v g c).1 (λ i h. let f = front i h in let b = not_behind i h in omega (arith, linear)))))
  where
    not_behind : (i : ℕ) → i < length v.edges → pos 0 ≤ℤ value g (corner_at v i)
    not_behind i h = let m = (none_in_front v (flipped g) c).0 none i h in let e = value_flipped g (corner_at v i) in omega (arith, linear)

pub beside_back : (v : Winding) (g : Plane) → IsConvex v → HasNoneInFront v g → (LiesIn v g → ⊥) → IsWhollyInFront v (flipped g)
beside_back v g c none out = beside v (flipped g) c
    (λ p r. let m = none p r in let e = value_flipped (flipped g) p in let f = value_flipped g p in omega (arith, linear))
    (λ l. out (λ p r. let m = l p r in let f = value_flipped g p in omega (arith, linear)))
