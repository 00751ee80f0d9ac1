-- The parallelogram that two pairs of opposite planes cut out of a plane, and what a third pair leaves of it.
use Rattle.std.proofs.Common.{◌≡◌, ℕ, zero, suc, ◌<◌, ℤ, pos, neg_ℤ, ◌+ℤ◌, ◌*ℤ◌, ◌<ℤ◌, ◌≤ℤ◌, List, [], ◌∷◌, ◌↔◌, refl, sym, ◌∙◌, arith, subst}
use Rattle.std.specs.List.{All, Contains}
use Rattle.std.proofs.lemmas.List.Elements.{All-from_recursion}
use Rattle.qm_space.specs.Point.{Point}
use Rattle.qm_space.specs.Plane.{Plane, value, IsOn, IsInFront}
use Rattle.qm_space.specs.Cell.{IsInCell}
use Rattle.qm_space.specs.Determinant.{determinant}
use Rattle.qm_space.specs.Meet.{meet}
use Rattle.qm_numbers.proofs.IntegerProducts.{linear, neg-*ℤ}
use Rattle.qm_numbers.proofs.Signs.{product_positive, product_not_negative, positive_beside}
use Rattle.qm_numbers.proofs.Ring.{variable, negated, ◌⊕◌, ◌⊗◌, solved}
use Rattle.qm_space.proofs.PlaneSymbols.{PlaneSymbols, plane_from, point_from, numbers_of_plane, numbers_of_point, symbol_meet, symbol_value}
use Rattle.qm_convex.specs.Winding.{Winding, next_place, edge_at, corner_at, IsConvex, IsInRegion}
use Rattle.qm_convex.specs.Cut.{IsPartInFront}
use Rattle.qm_convex.specs.Sides.{HasNoneInFront}
use Rattle.qm_convex.specs.Section.{IsSection, MissesCell}
use Rattle.qm_convex.specs.inner.Parallelogram.{facing, AreOpposite, LeaveRoom, IsBetweenPlanes, parallelogram}
use Rattle.qm_convex.proofs.Among.{edges_of_part}
use Rattle.qm_convex.proofs.Corners.{corner_on_edge, corner_on_next}

-- ---- planes that face one another

-- their values add up to the width between them
facing_sum : (a : Plane) (d : ℤ) (p : Point) → value a p +ℤ value (facing a d) p ≡ neg_ℤ (a.d +ℤ d) *ℤ p.w
unfolding value
facing_sum a d p =
    let e = plane_from 0 in let q = point_from 4 in
    solved (numbers_of_plane a (numbers_of_point p (d ∷ [])))
    (symbol_value e q ⊕ symbol_value (record { nx = negated e.nx; ny = negated e.ny; nz = negated e.nz; d = variable 8 }) q) (negated (e.d ⊕ variable 8) ⊗ q.w) tt

module _ (a : Plane) (d : ℤ) (p : Point) (apart : LeaveRoom a (facing a d)) (weight : pos 0 <ℤ p.w) where
  width : pos 0 <ℤ (neg_ℤ (a.d +ℤ d) *ℤ p.w)
  width = product_positive (neg_ℤ (a.d +ℤ d)) p.w (omega (arith, linear)) weight

  -- a point on the one is in front of the other
  front_of_facing : value a p ≡ pos 0 → IsInFront (facing a d) p
  front_of_facing e = let s = facing_sum a d p in let m = width in omega (arith, linear)

  front_from_facing : value (facing a d) p ≡ pos 0 → IsInFront a p
  front_from_facing e = let s = facing_sum a d p in let m = width in omega (arith, linear)

module _ (near far : Plane) (opposite : AreOpposite near far) (p : Point) where
  -- where they leave room between them, a point there has a positive weight
  pub weight_between : LeaveRoom near far → IsBetweenPlanes near far p → pos 0 <ℤ p.w
  weight_between apart between =
      let s = facing_sum near far.d p in
      let f = between.near in
      let g = subst (λ (h : Plane). IsInFront h p) opposite between.far in
      positive_beside (neg_ℤ (near.d +ℤ far.d)) p.w (omega (arith, linear)) (omega (arith, linear))

  -- where they leave none, there is no such point
  pub none_between : pos 0 ≤ℤ (near.d +ℤ far.d) → pos 0 <ℤ p.w → IsBetweenPlanes near far p → ⊥
  none_between shut weight between =
      let s = facing_sum near far.d p in
      let f = between.near in
      let g = subst (λ (h : Plane). IsInFront h p) opposite between.far in
      let m = product_not_negative (near.d +ℤ far.d) p.w shut (omega (arith, linear)) in
      let e = neg-*ℤ (near.d +ℤ far.d) p.w in
      omega (arith, linear)

-- ---- the parallelogram's corners

module _ (h a b : Plane) (d e : ℤ) where
  abbrev numbers : List ℤ
  numbers = numbers_of_plane h (numbers_of_plane a (numbers_of_plane b (d ∷ e ∷ [])))

  abbrev far_first : PlaneSymbols
  far_first = let q = plane_from 4 in record { nx = negated q.nx; ny = negated q.ny; nz = negated q.nz; d = variable 12 }

  abbrev far_second : PlaneSymbols
  far_second = let q = plane_from 8 in record { nx = negated q.nx; ny = negated q.ny; nz = negated q.nz; d = variable 13 }

  abbrev polygon : Winding
  polygon = parallelogram h a b (facing a d) (facing b e)

  second_weight : (meet h b (facing a d)).w ≡ (meet h a b).w
  unfolding meet determinant
  second_weight = solved numbers (symbol_meet (plane_from 0) (plane_from 8) far_first).w (symbol_meet (plane_from 0) (plane_from 4) (plane_from 8)).w tt

  third_weight : (meet h (facing a d) (facing b e)).w ≡ (meet h a b).w
  unfolding meet determinant
  third_weight = solved numbers (symbol_meet (plane_from 0) far_first far_second).w (symbol_meet (plane_from 0) (plane_from 4) (plane_from 8)).w tt

  fourth_weight : (meet h (facing b e) a).w ≡ (meet h a b).w
  unfolding meet determinant
  fourth_weight = solved numbers (symbol_meet (plane_from 0) far_second (plane_from 4)).w (symbol_meet (plane_from 0) (plane_from 4) (plane_from 8)).w tt

  first_corner : corner_at polygon 0 ≡ meet h a b
  unfolding corner_at next_place
  first_corner = refl

  second_corner : corner_at polygon 1 ≡ meet h b (facing a d)
  unfolding corner_at next_place
  second_corner = refl

  third_corner : corner_at polygon 2 ≡ meet h (facing a d) (facing b e)
  unfolding corner_at next_place
  third_corner = refl

  fourth_corner : corner_at polygon 3 ≡ meet h (facing b e) a
  unfolding corner_at next_place
  fourth_corner = refl

  next_row : (next_place 4 0 ≡ 1) × (next_place 4 1 ≡ 2) × (next_place 4 2 ≡ 3) × (next_place 4 3 ≡ 0)
  unfolding next_place
  next_row = (refl, refl, refl, refl)

  module _ (turn : pos 0 <ℤ (meet h a b).w) (a_apart : LeaveRoom a (facing a d)) (b_apart : LeaveRoom b (facing b e)) where
    parallelogram_weight : (i : ℕ) → i < 4 → pos 0 <ℤ (corner_at polygon i).w
    parallelogram_weight zero l = subst (λ p. pos 0 <ℤ p.w) (sym first_corner) turn
    parallelogram_weight (suc zero) l = subst (λ p. pos 0 <ℤ p.w) (sym second_corner) (let e = second_weight in omega (arith, linear, turn))
    parallelogram_weight (suc (suc zero)) l = subst (λ p. pos 0 <ℤ p.w) (sym third_corner) (let e = third_weight in omega (arith, linear, turn))
    parallelogram_weight (suc (suc (suc zero))) l = subst (λ p. pos 0 <ℤ p.w) (sym fourth_corner) (let e = fourth_weight in omega (arith, linear, turn))
    parallelogram_weight (suc (suc (suc (suc i)))) l = absurd (omega arith)

    on_next : (i j : ℕ) → next_place 4 i ≡ j → value (edge_at polygon j) (corner_at polygon i) ≡ pos 0
    on_next i j is = subst (λ k. value (edge_at polygon k) (corner_at polygon i) ≡ pos 0) is (corner_on_next polygon i)

    parallelogram_inside : (i k : ℕ) → i < 4 → k < 4 → (k ≡ i → ⊥) → (k ≡ next_place 4 i → ⊥) → IsInFront (edge_at polygon k) (corner_at polygon i)
    parallelogram_inside zero zero l m f s = absurd (f refl)
    parallelogram_inside zero (suc zero) l m f s = absurd (s (sym next_row.0))
    parallelogram_inside zero (suc (suc zero)) l m f s = front_of_facing a d (corner_at polygon 0) a_apart (parallelogram_weight 0 l) (corner_on_edge polygon 0)
    parallelogram_inside zero (suc (suc (suc zero))) l m f s = front_of_facing b e (corner_at polygon 0) b_apart (parallelogram_weight 0 l) (on_next 0 1 next_row.0)
    parallelogram_inside (suc zero) zero l m f s = front_from_facing a d (corner_at polygon 1) a_apart (parallelogram_weight 1 l) (on_next 1 2 next_row.1)
    parallelogram_inside (suc zero) (suc zero) l m f s = absurd (f refl)
    parallelogram_inside (suc zero) (suc (suc zero)) l m f s = absurd (s (sym next_row.1))
    parallelogram_inside (suc zero) (suc (suc (suc zero))) l m f s = front_of_facing b e (corner_at polygon 1) b_apart (parallelogram_weight 1 l) (corner_on_edge polygon 1)
    parallelogram_inside (suc (suc zero)) zero l m f s = front_from_facing a d (corner_at polygon 2) a_apart (parallelogram_weight 2 l) (corner_on_edge polygon 2)
    parallelogram_inside (suc (suc zero)) (suc zero) l m f s = front_from_facing b e (corner_at polygon 2) b_apart (parallelogram_weight 2 l) (on_next 2 3 next_row.2)
    parallelogram_inside (suc (suc zero)) (suc (suc zero)) l m f s = absurd (f refl)
    parallelogram_inside (suc (suc zero)) (suc (suc (suc zero))) l m f s = absurd (s (sym next_row.2))
    parallelogram_inside (suc (suc (suc zero))) zero l m f s = absurd (s (sym next_row.3))
    parallelogram_inside (suc (suc (suc zero))) (suc zero) l m f s = front_from_facing b e (corner_at polygon 3) b_apart (parallelogram_weight 3 l) (corner_on_edge polygon 3)
    parallelogram_inside (suc (suc (suc zero))) (suc (suc zero)) l m f s = front_of_facing a d (corner_at polygon 3) a_apart (parallelogram_weight 3 l) (on_next 3 0 next_row.3)
    parallelogram_inside (suc (suc (suc zero))) (suc (suc (suc zero))) l m f s = absurd (f refl)
    parallelogram_inside (suc (suc (suc (suc i)))) k l m f s = absurd (omega arith)
    parallelogram_inside i (suc (suc (suc (suc k)))) l m f s = absurd (omega arith)

    facing_parallelogram_convex : IsConvex polygon
    facing_parallelogram_convex = record { enough = omega arith; weight = parallelogram_weight; inside = parallelogram_inside }

-- ---- the parallelogram between two pairs

module _ (h a b c d : Plane) where
  -- it is convex where the planes' normals turn the right way
  pub parallelogram_convex : AreOpposite a c → AreOpposite b d → LeaveRoom a c → LeaveRoom b d → pos 0 <ℤ (meet h a b).w → IsConvex (parallelogram h a b c d)
  parallelogram_convex of_a of_b a_apart b_apart turn =
      subst (λ (g : Plane). IsConvex (parallelogram h a b g d)) (sym of_a)
      (subst (λ (g : Plane). IsConvex (parallelogram h a b (facing a c.d) g)) (sym of_b)
      (facing_parallelogram_convex h a b c.d d.d turn a_apart b_apart))

  -- its points are those of the plane between either pair
  pub parallelogram_region : (p : Point) → IsInRegion (parallelogram h a b c d) p ↔ ((pos 0 <ℤ p.w) × IsOn h p × IsBetweenPlanes a c p × IsBetweenPlanes b d p)
  parallelogram_region p = (
    (λ r. (r.weight, r.on, record { near = r.inside 0 h (omega arith); far = r.inside 2 h (omega arith) }, record { near = r.inside 1 h (omega arith); far = r.inside 3 h (omega arith) })),
    (λ s. record { weight = s.0; on = s.1; inside = All-from_recursion (λ e. IsInFront e p) (parallelogram h a b c d).edges (s.2.near, (s.3.near, (s.2.far, (s.3.far, tt)))) }),
  )

-- ---- the section of the cell of three pairs: the parallelogram of two pairs, cut by the third one

module _ (cell : List Plane) (h a b c d e f : Plane)
    (pairs : (p : Point) → IsInCell cell p ↔ (IsBetweenPlanes a d p × IsBetweenPlanes b e p × IsBetweenPlanes c f p)) where
  -- the plane misses the cell where nothing of the parallelogram is in front of the third pair's first plane
  pub misses_near : HasNoneInFront (parallelogram h a b d e) c → MissesCell cell h
  misses_near n p weight on i =
      let s = (pairs p).0 i in
      let m = n p ((parallelogram_region h a b d e p).1 (weight, on, s.0, s.1)) in
      let g = s.2.near in
      omega (arith, linear)

  -- or where nothing of the rest is in front of the other one
  pub misses_far : (v : Winding) → IsPartInFront v (parallelogram h a b d e) c → HasNoneInFront v f → MissesCell cell h
  misses_far v x n p weight on i =
      let s = (pairs p).0 i in
      let m = n p ((x.points p).1 ((parallelogram_region h a b d e p).1 (weight, on, s.0, s.1), s.2.near)) in
      let g = s.2.far in
      omega (arith, linear)

  -- else what both leave is the section
  pub section_of_parallelogram : (v w : Winding) → AreOpposite a d → LeaveRoom a d → All (Contains cell) (a ∷ b ∷ d ∷ e ∷ []) → Contains cell c → Contains cell f →
      IsPartInFront v (parallelogram h a b d e) c → IsPartInFront w v f → IsSection cell h w
  section_of_parallelogram v w of_a a_apart among has_c has_f x y = record {
    convex = y.convex;
    plane = y.plane ∙ x.plane;
    points = λ p. (to_cell p, from_cell p);
    edges = edges_of_part w v f cell y has_f (edges_of_part v (parallelogram h a b d e) c cell x has_c among);
  }
    where
      to_cell : (p : Point) → IsInRegion w p → IsOn h p × IsInCell cell p
      to_cell p r =
          let s = (y.points p).0 r in
          let t = (x.points p).0 s.0 in
          let u = (parallelogram_region h a b d e p).0 t.0 in
          (u.1, (pairs p).1 (u.2, u.3, record { near = t.1; far = s.1 }))

      from_cell : (p : Point) → IsOn h p × IsInCell cell p → IsInRegion w p
      from_cell p (on, i) =
          let s = (pairs p).0 i in
          let weight = weight_between a d of_a p a_apart s.0 in
          (y.points p).1 ((x.points p).1 ((parallelogram_region h a b d e p).1 (weight, on, s.0, s.1), s.2.near), s.2.far)
