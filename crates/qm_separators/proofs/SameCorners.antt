-- The points of a winding fix its corners: windings with the same points have the same corners, as places, and the same pairs
-- of neighbours.
use Rattle.std.proofs.Common.{◌≡◌, ℕ, ◌<◌, ℤ, pos, neg_ℤ, ◌+ℤ◌, ◌*ℤ◌, ◌<ℤ◌, ◌≤ℤ◌, length, ap, sym, subst, ◌∙◌, arith, unsigned_abs, ◌⊎◌, inl, inr, ⊎_elim}
use Rattle.std.proofs.lemmas.Bool.{cases_eq}
use Rattle.std.proofs.lemmas.Int.{ints}
use Rattle.std.proofs.lemmas.List.Elements.{All-from_get_or}
use Rattle.qm_numbers.proofs.IntegerProducts.{linear, *ℤ_zero, *ℤ_one, *ℤ-neg}
use Rattle.qm_numbers.proofs.Signs.{by_least, product_positive, product_not_negative, positive_beside, negative_beside, not_negative_beside, not_positive_beside, zero_beside_positive, times_at_most, positive_times_negative, product_not_positive}
use Rattle.qm_space.specs.Point.{Point, point_sum, point_times, IsSamePlace}
use Rattle.qm_space.specs.Plane.{Plane, value, IsOn, IsInFront, IsBehind, IsNotBehind, IsNotInFront}
use Rattle.qm_space.proofs.Planes.{value_sum, value_times}
use Rattle.qm_convex.specs.Winding.{Winding, next_place, edge_at, corner_at, IsConvex, IsInRegion}
use Rattle.qm_convex.specs.Vertex.{IsInClosedRegion, IsVertex, IsSomeCorner}
use Rattle.qm_convex.proofs.Places.{next_below, next_injective}
use Rattle.qm_convex.proofs.Corners.{corner_on_plane, corner_on_edge, corner_on_next, corner_not_behind, far_corner_in_front, by_edge}
use Rattle.qm_convex.proofs.Central.{middle, middle_in_region}
use Rattle.qm_convex.proofs.Vertices.{corner_is_vertex, vertex_is_corner}
use Rattle.qm_separators.specs.Part.{HasSameRegion}

-- ---- one place has one side of each plane

module _ (g : Plane) (p q : Point) (p_weight : pos 0 <ℤ p.w) (q_weight : pos 0 <ℤ q.w) (same : IsSamePlace p q) where
  values : q.w *ℤ value g p ≡ p.w *ℤ value g q
  values = sym (value_times g q.w p) ∙ ap (value g) same ∙ value_times g p.w q

  pub place_on : IsOn g p → IsOn g q
  place_on on = zero_beside_positive p.w (value g q) p_weight (sym values ∙ ap (λ v. q.w *ℤ v) on ∙ *ℤ_zero q.w)

  pub place_in_front : IsInFront g p → IsInFront g q
  place_in_front front = let e = values in let m = product_positive q.w (value g p) q_weight front in positive_beside p.w (value g q) p_weight (omega (arith, linear))

  pub place_behind : IsBehind g p → IsBehind g q
  place_behind behind = let e = values in let m = positive_times_negative q.w (value g p) q_weight behind in negative_beside p.w (value g q) p_weight (omega (arith, linear))

  pub place_not_behind : IsNotBehind g p → IsNotBehind g q
  place_not_behind not = let e = values in let m = product_not_negative q.w (value g p) (omega (arith, linear)) not in not_negative_beside p.w (value g q) p_weight (omega (arith, linear))

  pub place_not_in_front : IsNotInFront g p → IsNotInFront g q
  place_not_in_front not = let e = values in let m = product_not_positive q.w (value g p) (omega (arith, linear)) not in not_positive_beside p.w (value g q) p_weight (omega (arith, linear))

-- ---- the polygon with its border, by the polygon without

-- many times a point, and another
toward : Point → Point → ℤ → Point
toward p q k = point_sum (point_times k p) q

value_toward : (g : Plane) (p q : Point) (k : ℤ) → value g (toward p q k) ≡ (k *ℤ value g p) +ℤ value g q
unfolding toward
value_toward g p q k = let s = value_sum g (point_times k p) q in let t = value_times g k p in omega (arith, linear)

toward_weight : (p q : Point) (k : ℤ) → (toward p q k).w ≡ (k *ℤ p.w) +ℤ q.w
unfolding toward
toward_weight p q k = omega (arith, linear)

-- a point of the closed polygon and one of the open one have open ones between them
toward_in_region : (v : Winding) (p q : Point) (k : ℤ) → pos 0 ≤ℤ k → IsInClosedRegion v p → IsInRegion v q → IsInRegion v (toward p q k)
toward_in_region v p q k h c r = record {
  weight = let e = toward_weight p q k in let m = product_not_negative k p.w h (let w = c.weight in omega (arith, linear)) in let w = r.weight in omega (arith, linear);
  on = let e = value_toward v.plane p q k in let z = ap (λ x. k *ℤ x) c.on ∙ *ℤ_zero k in let o = r.on in omega (arith, linear);
  inside = All-from_get_or (λ e. IsInFront e (toward p q k)) v.edges v.plane (λ i l.
      let e = value_toward (edge_at v i) p q k in let m = product_not_negative k (value (edge_at v i) p) h (c.inside i v.plane l) in let f = r.inside i v.plane l in omega (arith, linear));
}

-- so it is the closed polygon's where it is so for all of these
closed_by_toward : (v : Winding) (p q : Point) → pos 0 <ℤ p.w → IsInRegion v q → ((k : ℤ) → pos 0 ≤ℤ k → IsInRegion v (toward p q k)) → IsInClosedRegion v p
closed_by_toward v p q w r all = record { weight = w; on = on; inside = All-from_get_or (λ e. IsNotBehind e p) v.edges v.plane each }
  where
    on : IsOn v.plane p
    on =
        let e = value_toward v.plane p q (pos 1) in
        let f = (all (pos 1) (omega (arith, ints))).on in
        let o = r.on in
        zero_beside_positive (pos 1) (value v.plane p) (omega (arith, ints)) (omega (arith, linear))

    each : (i : ℕ) → i < length v.edges → IsNotBehind (edge_at v i) p
    each i l = by_least (value (edge_at v i) p) (pos 0)
        (λ below.
        let k : ℤ = pos (unsigned_abs (value (edge_at v i) q)) in
        let f = (all k (omega (arith, ints))).inside i v.plane l in
        let e = value_toward (edge_at v i) p q k in
        let m = times_at_most k (value (edge_at v i) p) (neg_ℤ (pos 1)) (omega (arith, ints)) (omega (arith, ints)) in
        let n = *ℤ-neg k (pos 1) in
        let o = *ℤ_one k in
        let size : value (edge_at v i) q ≤ℤ k = omega (arith, ints) in
        absurd (omega (arith, linear)))
        (λ not. not)

pub same_back : (v w : Winding) → HasSameRegion v w → HasSameRegion w v
same_back v w same p = ((same p).1, (same p).0)

pub closed_too : (v w : Winding) → IsConvex v → HasSameRegion v w → (p : Point) → IsInClosedRegion v p → IsInClosedRegion w p
closed_too v w c same p closed =
    closed_by_toward w p (middle v) closed.weight ((same (middle v)).0 (middle_in_region v c)) (λ k h. (same (toward p (middle v) k)).0 (toward_in_region v p (middle v) k h closed (middle_in_region v c)))

-- ---- the same corners

pub vertex_too : (v w : Winding) → IsConvex v → IsConvex w → HasSameRegion v w → (p : Point) → IsVertex v p → IsVertex w p
vertex_too v w v_convex w_convex same p is = record {
  closed = closed_too v w v_convex same p is.closed;
  extreme = λ q r q_in r_in. is.extreme q r (closed_too w v w_convex (same_back v w same) q q_in) (closed_too w v w_convex (same_back v w same) r r_in);
}

pub corner_too : (v w : Winding) → IsConvex v → IsConvex w → HasSameRegion v w → (i : ℕ) → i < length v.edges → IsSomeCorner w (corner_at v i)
corner_too v w v_convex w_convex same i h = vertex_is_corner w w_convex (corner_at v i) (vertex_too v w v_convex w_convex same (corner_at v i) (corner_is_vertex v v_convex i h))

-- ---- the same neighbours

-- two corners that are no neighbours have a point of the polygon between them
apart_in_region : (v : Winding) (j k : ℕ) → IsConvex v → j < length v.edges → k < length v.edges → (j ≡ k → ⊥) → (k ≡ next_place (length v.edges) j → ⊥) → (j ≡ next_place (length v.edges) k → ⊥) → IsInRegion v (point_sum (corner_at v j) (corner_at v k))
apart_in_region v j k c j_below k_below other not_next not_before = record {
  weight = let a = c.weight j j_below in let b = c.weight k k_below in omega (arith, linear);
  on = let s = value_sum v.plane (corner_at v j) (corner_at v k) in let a = corner_on_plane v j in let b = corner_on_plane v k in omega (arith, linear);
  inside = All-from_get_or (λ e. IsInFront e (point_sum (corner_at v j) (corner_at v k))) v.edges v.plane each;
}
  where
    each : (m : ℕ) → m < length v.edges → IsInFront (edge_at v m) (point_sum (corner_at v j) (corner_at v k))
    each m l =
        let s = value_sum (edge_at v m) (corner_at v j) (corner_at v k) in
        let a = corner_not_behind v c j m j_below l in
        let b = corner_not_behind v c k m k_below l in
        by_edge (length v.edges) j m
        (λ e. let f = c.inside k m k_below l (λ g. other (sym e ∙ g)) (λ g. not_before (sym e ∙ g)) in omega (arith, linear))
        (λ e. let f = c.inside k m k_below l (λ g. not_next (sym g ∙ e)) (λ g. other (next_injective (length v.edges) j k j_below k_below (sym e ∙ g))) in omega (arith, linear))
        (λ e g. let f = c.inside j m j_below l e g in omega (arith, linear))

-- neighbours of the one are neighbours of the other, one way round or the other
module _ (v w : Winding) (v_convex : IsConvex v) (w_convex : IsConvex w) (same : HasSameRegion v w) (i : ℕ) (below : i < length v.edges) where
  abbrev next : ℕ
  next = next_place (length v.edges) i

  next_in : next < length v.edges
  next_in = next_below (length v.edges) i below

  pub first_too : IsSomeCorner w (corner_at v i)
  first_too = corner_too v w v_convex w_convex same i below

  pub second_too : IsSomeCorner w (corner_at v next)
  second_too = corner_too v w v_convex w_convex same next next_in

  -- a plane that holds the corner of the one holds that of the other
  first_on : (g : Plane) → IsOn g (corner_at v i) → IsOn g (corner_at w first_too.0)
  first_on g on = place_on g (corner_at v i) (corner_at w first_too.0) (v_convex.weight i below) (w_convex.weight first_too.0 first_too.1) first_too.2 on

  second_on : (g : Plane) → IsOn g (corner_at v next) → IsOn g (corner_at w second_too.0)
  second_on g on = place_on g (corner_at v next) (corner_at w second_too.0) (v_convex.weight next next_in) (w_convex.weight second_too.0 second_too.1) second_too.2 on

  not_one : first_too.0 ≡ second_too.0 → ⊥
  not_one e =
      let on = first_on (edge_at v i) (corner_on_edge v i) in
      let front = place_in_front (edge_at v i) (corner_at v next) (corner_at w second_too.0) (v_convex.weight next next_in) (w_convex.weight second_too.0 second_too.1) second_too.2 (far_corner_in_front v v_convex i below) in
      let both = subst (λ (k : ℕ). IsInFront (edge_at v i) (corner_at w k)) (sym e) front in
      omega (arith, linear)

  not_inside : IsInRegion w (point_sum (corner_at w first_too.0) (corner_at w second_too.0)) → ⊥
  not_inside inside =
      let front = ((same (point_sum (corner_at w first_too.0) (corner_at w second_too.0))).1 inside).inside next v.plane next_in in
      let s = value_sum (edge_at v next) (corner_at w first_too.0) (corner_at w second_too.0) in
      let a = first_on (edge_at v next) (corner_on_next v i) in
      let b = second_on (edge_at v next) (corner_on_edge v next) in
      omega (arith, linear)

  pub neighbours_too : (second_too.0 ≡ next_place (length w.edges) first_too.0) ⊎ (first_too.0 ≡ next_place (length w.edges) second_too.0)
  neighbours_too = ⊎_elim inl (λ not_next. ⊎_elim inr (λ not_before. ⊎_elim
      (λ e. absurd (not_one e))
      (λ other. absurd (not_inside (apart_in_region w first_too.0 second_too.0 w_convex first_too.1 second_too.1 (λ e. absurd (omega (arith, e, other))) (λ e. absurd (omega (arith, e, not_next))) (λ e. absurd (omega (arith, e, not_before))))))
      (cases_eq first_too.0 second_too.0))
      (cases_eq first_too.0 (next_place (length w.edges) second_too.0)))
      (cases_eq second_too.0 (next_place (length w.edges) first_too.0))
