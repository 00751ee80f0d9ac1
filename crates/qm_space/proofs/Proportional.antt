-- Two planes are multiples of one another, or one of them holds four numbers that the other does not hold.
use Rattle.std.proofs.Common.{◌≡◌, ℤ, pos, neg_ℤ, ◌+ℤ◌, ◌-ℤ◌, ◌*ℤ◌, [], ap, ◌∙◌, arith}
use Rattle.qm_space.specs.Point.{Point}
use Rattle.qm_space.specs.Plane.{Plane, value, IsOn, scaled}
use Rattle.qm_numbers.proofs.IntegerProducts.{linear, *ℤ_zero}
use Rattle.qm_numbers.proofs.Signs.{by_zero}
use Rattle.qm_numbers.proofs.Ring.{Expression, number, negated, ◌⊕◌, ◌⊖◌, ◌⊗◌, solved}
use Rattle.qm_space.proofs.PlaneSymbols.{PlaneSymbols, PointSymbols, plane_from, point_from, numbers_of_plane, numbers_of_point, symbol_value}
use Rattle.qm_space.proofs.ReducedPlanes.{same_plane}

-- the six vectors of a plane: two of its numbers exchanged, the one with its sign turned
abbrev xy : Plane → Point
xy h = record { x = h.ny; y = neg_ℤ h.nx; z = pos 0; w = pos 0 }

abbrev xz : Plane → Point
xz h = record { x = h.nz; y = pos 0; z = neg_ℤ h.nx; w = pos 0 }

abbrev yz : Plane → Point
yz h = record { x = pos 0; y = h.nz; z = neg_ℤ h.ny; w = pos 0 }

abbrev xw : Plane → Point
xw h = record { x = h.d; y = pos 0; z = pos 0; w = h.nx }

abbrev yw : Plane → Point
yw h = record { x = pos 0; y = h.d; z = pos 0; w = h.ny }

abbrev zw : Plane → Point
zw h = record { x = pos 0; y = pos 0; z = h.d; w = h.nz }

-- the same in symbols
abbrev none : Expression
none = number (pos 0)

abbrev symbol_xy : PlaneSymbols → PointSymbols
symbol_xy h = record { x = h.ny; y = negated h.nx; z = none; w = none }

abbrev symbol_xz : PlaneSymbols → PointSymbols
symbol_xz h = record { x = h.nz; y = none; z = negated h.nx; w = none }

abbrev symbol_yz : PlaneSymbols → PointSymbols
symbol_yz h = record { x = none; y = h.nz; z = negated h.ny; w = none }

abbrev symbol_xw : PlaneSymbols → PointSymbols
symbol_xw h = record { x = h.d; y = none; z = none; w = h.nx }

abbrev symbol_yw : PlaneSymbols → PointSymbols
symbol_yw h = record { x = none; y = h.d; z = none; w = h.ny }

abbrev symbol_zw : PlaneSymbols → PointSymbols
symbol_zw h = record { x = none; y = none; z = h.d; w = h.nz }

-- the plane holds each
module _ (h : Plane) where
  holds_xy : IsOn h (xy h)
  unfolding value
  holds_xy = let e = plane_from 0 in solved (numbers_of_plane h []) (symbol_value e (symbol_xy e)) none tt

  holds_xz : IsOn h (xz h)
  unfolding value
  holds_xz = let e = plane_from 0 in solved (numbers_of_plane h []) (symbol_value e (symbol_xz e)) none tt

  holds_yz : IsOn h (yz h)
  unfolding value
  holds_yz = let e = plane_from 0 in solved (numbers_of_plane h []) (symbol_value e (symbol_yz e)) none tt

  holds_xw : IsOn h (xw h)
  unfolding value
  holds_xw = let e = plane_from 0 in solved (numbers_of_plane h []) (symbol_value e (symbol_xw e)) none tt

  holds_yw : IsOn h (yw h)
  unfolding value
  holds_yw = let e = plane_from 0 in solved (numbers_of_plane h []) (symbol_value e (symbol_yw e)) none tt

  holds_zw : IsOn h (zw h)
  unfolding value
  holds_zw = let e = plane_from 0 in solved (numbers_of_plane h []) (symbol_value e (symbol_zw e)) none tt

-- a plane that holds them all is a multiple of it, by the values at any point
module _ (a h : Plane) (q : Point) where
  abbrev f : PlaneSymbols
  f = plane_from 0

  abbrev g : PlaneSymbols
  g = plane_from 4

  abbrev p : PointSymbols
  p = point_from 8

  abbrev difference : Expression → Expression → Expression
  difference its other = symbol_value g p ⊗ its ⊖ symbol_value f p ⊗ other

  first : (value h q *ℤ a.nx) -ℤ (value a q *ℤ h.nx) ≡ ((q.y *ℤ value a (xy h)) +ℤ (q.z *ℤ value a (xz h))) -ℤ (q.w *ℤ value a (xw h))
  unfolding value
  first =
      solved (numbers_of_plane a (numbers_of_plane h (numbers_of_point q []))) (difference f.nx g.nx)
      (p.y ⊗ symbol_value f (symbol_xy g) ⊕ p.z ⊗ symbol_value f (symbol_xz g) ⊖ p.w ⊗ symbol_value f (symbol_xw g)) tt

  second : (value h q *ℤ a.ny) -ℤ (value a q *ℤ h.ny) ≡ ((neg_ℤ q.x *ℤ value a (xy h)) +ℤ (q.z *ℤ value a (yz h))) -ℤ (q.w *ℤ value a (yw h))
  unfolding value
  second =
      solved (numbers_of_plane a (numbers_of_plane h (numbers_of_point q []))) (difference f.ny g.ny)
      (negated p.x ⊗ symbol_value f (symbol_xy g) ⊕ p.z ⊗ symbol_value f (symbol_yz g) ⊖ p.w ⊗ symbol_value f (symbol_yw g)) tt

  third : (value h q *ℤ a.nz) -ℤ (value a q *ℤ h.nz) ≡ ((neg_ℤ q.x *ℤ value a (xz h)) -ℤ (q.y *ℤ value a (yz h))) -ℤ (q.w *ℤ value a (zw h))
  unfolding value
  third =
      solved (numbers_of_plane a (numbers_of_plane h (numbers_of_point q []))) (difference f.nz g.nz)
      (negated p.x ⊗ symbol_value f (symbol_xz g) ⊖ p.y ⊗ symbol_value f (symbol_yz g) ⊖ p.w ⊗ symbol_value f (symbol_zw g)) tt

  fourth : (value h q *ℤ a.d) -ℤ (value a q *ℤ h.d) ≡ ((neg_ℤ q.x *ℤ value a (xw h)) -ℤ (q.y *ℤ value a (yw h))) -ℤ (q.z *ℤ value a (zw h))
  unfolding value
  fourth =
      solved (numbers_of_plane a (numbers_of_plane h (numbers_of_point q []))) (difference f.d g.d)
      (negated p.x ⊗ symbol_value f (symbol_xw g) ⊖ p.y ⊗ symbol_value f (symbol_yw g) ⊖ p.z ⊗ symbol_value f (symbol_zw g)) tt

no_more : (a b : ℤ) → b ≡ pos 0 → a *ℤ b ≡ pos 0
no_more a b e = ap (λ x. a *ℤ x) e ∙ *ℤ_zero a

-- the values at any point are such multiples
abbrev pub IsProportional : Plane → Plane → Type 0
IsProportional a h = (q : Point) → scaled (value h q) a ≡ scaled (value a q) h

proportional : (a h : Plane) → IsOn a (xy h) → IsOn a (xz h) → IsOn a (yz h) → IsOn a (xw h) → IsOn a (yw h) → IsOn a (zw h) → IsProportional a h
proportional a h e f g k l m q =
    let s = first a h q in let t = second a h q in let u = third a h q in let v = fourth a h q in
    let xe = no_more (neg_ℤ q.x) (value a (xy h)) e in let ye = no_more q.y (value a (xy h)) e in
    let xf = no_more (neg_ℤ q.x) (value a (xz h)) f in let zf = no_more q.z (value a (xz h)) f in
    let yg = no_more q.y (value a (yz h)) g in let zg = no_more q.z (value a (yz h)) g in
    let xk = no_more (neg_ℤ q.x) (value a (xw h)) k in let wk = no_more q.w (value a (xw h)) k in
    let yl = no_more q.y (value a (yw h)) l in let wl = no_more q.w (value a (yw h)) l in
    let zm = no_more q.z (value a (zw h)) m in let wm = no_more q.w (value a (zw h)) m in
    same_plane (scaled (value h q) a) (scaled (value a q) h) (omega (arith, linear)) (omega (arith, linear)) (omega (arith, linear)) (omega (arith, linear))

-- the planes are multiples of one another, or the second holds four numbers that the first does not hold
pub by_proportional : {P : Type 0} (a h : Plane) → (IsProportional a h → P) → ((v : Point) → IsOn h v → (IsOn a v → ⊥) → P) → P
by_proportional a h same apart =
    by_zero (value a (xy h)) (λ e. by_zero (value a (xz h)) (λ f. by_zero (value a (yz h)) (λ g.
    by_zero (value a (xw h)) (λ k. by_zero (value a (yw h)) (λ l. by_zero (value a (zw h)) (λ m.
    same (proportional a h e f g k l m))
    (apart (zw h) (holds_zw h))) (apart (yw h) (holds_yw h))) (apart (xw h) (holds_xw h)))
    (apart (yz h) (holds_yz h))) (apart (xz h) (holds_xz h))) (apart (xy h) (holds_xy h))
