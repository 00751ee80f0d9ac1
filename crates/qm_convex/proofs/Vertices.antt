-- The corners of a winding are exactly its vertices.
use Rattle.std.proofs.Common.{◌≡◌, ℕ, zero, suc, ◌<◌, ◌≤◌, ℤ, pos, neg_ℤ, ◌+ℤ◌, ◌*ℤ◌, ◌<ℤ◌, ◌≤ℤ◌, length, ap, sym, ◌∙◌, arith, subst, ◌⊎◌, inl, inr, ⊎_elim}
use Rattle.std.proofs.Math.IntN.{*ℤ_comm}
use Rattle.std.proofs.lemmas.Int.{ints}
use Rattle.std.proofs.lemmas.Bool.{cases_eq}
use Rattle.std.proofs.lemmas.List.Elements.{All-from_get_or}
use Rattle.qm_space.specs.Point.{Point, point_sum, point_times, IsSamePlace}
use Rattle.qm_space.specs.Plane.{Plane, value, IsOn, IsInFront}
use Rattle.qm_numbers.proofs.IntegerProducts.{linear, *ℤ_zero, zero_*ℤ, one_*ℤ, neg-*ℤ}
use Rattle.qm_numbers.proofs.Signs.{by_sign, product_positive, product_not_negative, zero_beside_positive}
use Rattle.qm_space.proofs.Planes.{same_point, value_sum, value_times, meet_only}
use Rattle.qm_space.proofs.Exchange.{point_on_line}
use Rattle.qm_convex.specs.Winding.{Winding, next_place, edge_at, corner_at, IsConvex, IsInRegion}
use Rattle.qm_convex.specs.Vertex.{IsInClosedRegion, IsVertex, IsSomeCorner, HasStraightCorner, HasVerticesAsCorners}
use Rattle.qm_space.specs.Line.{AreOnOneLine, IsBetween, four_zeros}
use Rattle.qm_convex.proofs.Places.{next_inner, next_below, next_other, next_next_other, place_before}
use Rattle.qm_convex.proofs.Corners.{corner_on_plane, corner_on_edge, corner_on_next, corner_not_behind, far_corner_in_front, value_on_edge}
use Rattle.qm_convex.proofs.NewCorners.{far_plane, value_far_plane, by_first, by_second}
use Rattle.qm_space.proofs.Crossings.{through, value_through}
use Rattle.qm_convex.proofs.Hull.{IsExit, exit_of, exit_not_behind, first_corner_inside}

corner_closed : (v : Winding) → IsConvex v → (i : ℕ) → i < length v.edges → IsInClosedRegion v (corner_at v i)
corner_closed v c i h = record {
  weight = c.weight i h;
  on = corner_on_plane v i;
  inside = All-from_get_or (λ e. pos 0 ≤ℤ value e (corner_at v i)) v.edges v.plane (λ k l. corner_not_behind v c i k h l);
}

-- a plane that holds a point between two others, and has neither behind it, holds both
both_on : (g : Plane) (p q r : Point) → IsBetween p q r → IsOn g p → pos 0 ≤ℤ value g q → pos 0 ≤ℤ value g r → IsOn g q × IsOn g r
both_on g p q r b on a d =
    let e = sym (value_times g b.times_p p) ∙ ap (value g) b.sum ∙ value_sum g (point_times b.times_q q) (point_times b.times_r r) in
    let eq = value_times g b.times_q q in
    let er = value_times g b.times_r r in
    let z = ap (λ x. b.times_p *ℤ x) on ∙ *ℤ_zero b.times_p in
    let sq = b.some_q in
    let sr = b.some_r in
    let nq = product_not_negative b.times_q (value g q) (omega (arith, linear)) a in
    let nr = product_not_negative b.times_r (value g r) (omega (arith, linear)) d in
    (zero_beside_positive b.times_q (value g q) b.some_q (omega (arith, linear)), zero_beside_positive b.times_r (value g r) b.some_r (omega (arith, linear)))

-- a point on the plane and on the two edges of a corner is that corner
at_corner : (v : Winding) (i : ℕ) (q : Point) → IsOn v.plane q → IsOn (edge_at v i) q → IsOn (edge_at v (next_place (length v.edges) i)) q → IsSamePlace q (corner_at v i)
unfolding corner_at
at_corner v i q x y z = meet_only v.plane (edge_at v i) (edge_at v (next_place (length v.edges) i)) q x y z

-- each corner is a vertex
pub corner_is_vertex : (v : Winding) → IsConvex v → (i : ℕ) → i < length v.edges → IsVertex v (corner_at v i)
corner_is_vertex v c i h = record { closed = corner_closed v c i h; extreme = extreme }
  where
    extreme : (q r : Point) → IsInClosedRegion v q → IsInClosedRegion v r → IsBetween (corner_at v i) q r → IsSamePlace q (corner_at v i) × IsSamePlace r (corner_at v i)
    extreme q r x y b =
        let n = length v.edges in
        let l = next_below n i h in
        let first = both_on (edge_at v i) (corner_at v i) q r b (corner_on_edge v i) (x.inside i v.plane h) (y.inside i v.plane h) in
        let second = both_on (edge_at v (next_place n i)) (corner_at v i) q r b (corner_on_next v i) (x.inside (next_place n i) v.plane l) (y.inside (next_place n i) v.plane l) in
        (at_corner v i q x.on first.0 second.0, at_corner v i r y.on first.1 second.1)

-- ---- each vertex is a corner

through_sum : (e : Plane) (c p : Point) → point_times (value e c) p ≡ point_sum (point_times (value e p) c) (point_times (pos 1) (through e c p))
through_sum e c p = same_point (point_times (value e c) p) (point_sum (point_times (value e p) c) (point_times (pos 1) (through e c p)))
    (part (value e c) (value e p) p.x c.x) (part (value e c) (value e p) p.y c.y) (part (value e c) (value e p) p.z c.z) (part (value e c) (value e p) p.w c.w)
  where
    part : (a b s t : ℤ) → a *ℤ s ≡ (b *ℤ t) +ℤ (pos 1 *ℤ ((a *ℤ s) +ℤ (neg_ℤ b *ℤ t)))
    part a b s t = let one = one_*ℤ ((a *ℤ s) +ℤ (neg_ℤ b *ℤ t)) in let m = neg-*ℤ b t in omega (arith, linear)

-- a point on an edge is made of the edge's two corners
point_on_edge : (v : Winding) (j : ℕ) (p : Point) → IsOn v.plane p → IsOn (edge_at v (next_place (length v.edges) j)) p →
    point_times (value (edge_at v j) (corner_at v (next_place (length v.edges) j))) p ≡
    point_sum (point_times (value (edge_at v j) p) (corner_at v (next_place (length v.edges) j)))
    (point_times (value (edge_at v (next_place (length v.edges) (next_place (length v.edges) j))) p) (corner_at v j))
unfolding corner_at
point_on_edge v j p x y =
    let n = length v.edges in
    point_on_line v.plane (edge_at v j) (edge_at v (next_place n j)) (edge_at v (next_place n (next_place n j))) p x y

-- not behind: on it, or in front of it
by_on : {P : Type 0} (g : Plane) (p : Point) → pos 0 ≤ℤ value g p → (IsOn g p → P) → (IsInFront g p → P) → P
by_on g p h on front = by_sign (value g p) (λ l. absurd (omega (arith, linear))) on front

-- some edge holds the point, or it is in front of each
edge_below : (v : Winding) (p : Point) (m : ℕ) → m ≤ length v.edges → IsInClosedRegion v p →
    ((k : ℕ) × (k < length v.edges) × IsOn (edge_at v k) p) ⊎ ((k : ℕ) → k < m → IsInFront (edge_at v k) p)
edge_below v p zero h r = inr (λ k l. absurd (omega arith))
edge_below v p (suc m) h r = ⊎_elim
    inl
    (λ a. by_on (edge_at v m) p (r.inside m v.plane (omega arith))
    (λ e. inl (m, omega arith, e))
    (λ f. inr (λ k l. ⊎_elim (λ e. subst (λ j. IsInFront (edge_at v j) p) (sym e) f) (λ e. a k (omega (arith, e))) (cases_eq k m))))
    (edge_below v p m (omega arith) r)

-- a vertex on an edge is one of the edge's two corners
vertex_on_edge : (v : Winding) (p : Point) → IsConvex v → IsVertex v p → (j : ℕ) → j < length v.edges → IsOn (edge_at v (next_place (length v.edges) j)) p → IsSomeCorner v p
vertex_on_edge v p c x j h on =
    let n = length v.edges in
    let k = next_place n j in
    let kn = next_below n j h in
    let r = x.closed in
    by_on (edge_at v j) p (r.inside j v.plane h)
    (λ e. (j, h, at_corner v j p r.on e on))
    (λ f. by_on (edge_at v (next_place n k)) p (r.inside (next_place n k) v.plane (next_below n k kn))
    (λ e. (k, kn, at_corner v k p r.on on e))
    (λ g. (
      k,
      kn,
      sym (x.extreme (corner_at v k) (corner_at v j) (corner_closed v c k kn) (corner_closed v c j h) (record {
        times_p = value (edge_at v j) (corner_at v k);
        times_q = value (edge_at v j) p;
        times_r = value (edge_at v (next_place n k)) p;
        some_p = far_corner_in_front v c j h;
        some_q = f;
        some_r = g;
        sum = point_on_edge v j p r.on on;
      })).0,
    )))

-- the point where the ray from the first corner leaves the winding is a point of its border
exit_closed : (v : Winding) (p : Point) (before : ℕ) → IsConvex v → IsInRegion v p → IsExit v p before → IsInClosedRegion v (through (edge_at v (suc before)) (corner_at v 0) p)
exit_closed v p before c r x = record {
  weight = by_sign (value (edge_at v before) q) (λ l. absurd (let a = near_part in omega (arith, linear))) weight_by_far weight_by_near;
  on = on;
  inside = All-from_get_or (λ e. pos 0 ≤ℤ value e q) v.edges v.plane (exit_not_behind v p before c r x);
}
  where
    n : ℕ
    n = length v.edges

    e : Plane
    e = edge_at v (suc before)

    q : Point
    q = through (edge_at v (suc before)) (corner_at v 0) p

    h : before < length v.edges
    h = let a = x.in_range in omega arith

    step : next_place (length v.edges) before ≡ suc before
    step = next_inner (length v.edges) before x.in_range

    far : Point
    far = corner_at v (next_place (length v.edges) before)

    over : ℤ
    over = value (edge_at v (next_place (length v.edges) (next_place (length v.edges) before))) (through (edge_at v (suc before)) (corner_at v 0) p)

    on : IsOn v.plane (through (edge_at v (suc before)) (corner_at v 0) p)
    on =
        let s = value_through v.plane e (corner_at v 0) p in
        let a = ap (λ y. value e (corner_at v 0) *ℤ y) r.on ∙ *ℤ_zero (value e (corner_at v 0)) in
        let b = ap (λ y. value e p *ℤ y) (corner_on_plane v 0) ∙ *ℤ_zero (value e p) in
        omega (arith, linear)

    on_edge : IsOn (edge_at v (next_place (length v.edges) before)) (through (edge_at v (suc before)) (corner_at v 0) p)
    on_edge = subst (λ j. IsOn (edge_at v j) (through (edge_at v (suc before)) (corner_at v 0) p)) (sym step)
        (let s = value_through (edge_at v (suc before)) (edge_at v (suc before)) (corner_at v 0) p in
        let t = *ℤ_comm (value (edge_at v (suc before)) (corner_at v 0)) (value (edge_at v (suc before)) p) in omega (arith, linear))

    between : (g : Plane) → value (edge_at v before) far *ℤ value g (through (edge_at v (suc before)) (corner_at v 0) p) ≡
        (value (edge_at v before) (through (edge_at v (suc before)) (corner_at v 0) p) *ℤ value g far) +ℤ (over *ℤ value g (corner_at v before))
    between g = value_on_edge v g before (through (edge_at v (suc before)) (corner_at v 0) p) on on_edge

    near_part : pos 0 ≤ℤ value (edge_at v before) (through (edge_at v (suc before)) (corner_at v 0) p)
    near_part = exit_not_behind v p before c r x before h

    far_part : pos 0 ≤ℤ over
    far_part = exit_not_behind v p before c r x (next_place n (next_place n before)) (next_below n (next_place n before) (next_below n before h))

    factor : pos 0 <ℤ value (edge_at v before) far
    factor = far_corner_in_front v c before h

    far_weight : pos 0 <ℤ value far_plane far
    far_weight = let s = value_far_plane far in let w = c.weight (next_place n before) (next_below n before h) in omega (arith, linear)

    near_weight : pos 0 <ℤ value far_plane (corner_at v before)
    near_weight = let s = value_far_plane (corner_at v before) in let w = c.weight before h in omega (arith, linear)

    weight_by_near : pos 0 <ℤ value (edge_at v before) (through (edge_at v (suc before)) (corner_at v 0) p) → pos 0 <ℤ (through (edge_at v (suc before)) (corner_at v 0) p).w
    weight_by_near a =
        let w = near_weight in
        let s = by_first (value (edge_at v before) far) (value far_plane q) (value (edge_at v before) q) (value far_plane far) over (value far_plane (corner_at v before))
        (between far_plane) factor a far_weight far_part (omega (arith, linear)) in
        let t = value_far_plane q in
        omega (arith, linear)

    -- if the point is not off the one edge beside, it is off the other, since it is not the first corner
    weight_by_far : value (edge_at v before) (through (edge_at v (suc before)) (corner_at v 0) p) ≡ pos 0 → pos 0 <ℤ (through (edge_at v (suc before)) (corner_at v 0) p).w
    weight_by_far a = by_sign over
        (λ l. absurd (let m = far_part in omega (arith, linear)))
        (λ z. absurd (
        let b = between (edge_at v 0) in
        let s = value_through (edge_at v 0) e (corner_at v 0) p in
        let m = product_positive (value e (corner_at v 0)) (value (edge_at v 0) p) (first_corner_inside v c (suc before) (let t = x.inner in omega arith) x.in_range) (r.inside 0 v.plane (let t = c.enough in omega arith)) in
        let k = ap (λ y. value e p *ℤ y) (corner_on_edge v 0) ∙ *ℤ_zero (value e p) in
        let o = product_positive (value (edge_at v before) far) (value (edge_at v 0) q) factor (omega (arith, linear)) in
        let u = ap (λ y. y *ℤ value (edge_at v 0) far) a ∙ zero_*ℤ (value (edge_at v 0) far) in
        let w = ap (λ y. y *ℤ value (edge_at v 0) (corner_at v before)) z ∙ zero_*ℤ (value (edge_at v 0) (corner_at v before)) in
        omega (arith, linear)
        ))
        (λ l.
        let w = far_weight in
        let s = by_second (value (edge_at v before) far) (value far_plane q) (value (edge_at v before) q) (value far_plane far) over (value far_plane (corner_at v before))
        (between far_plane) factor near_part (omega (arith, linear)) l near_weight in
        let t = value_far_plane q in
        omega (arith, linear))

-- no vertex is in front of each edge: it would lie between the first corner and the point where the ray leaves
vertex_on_some_edge : (v : Winding) (p : Point) → IsConvex v → IsVertex v p → IsInRegion v p → ⊥
vertex_on_some_edge v p c x r = from_exit (exit_of v p c)
  where
    from_exit : (before : ℕ) × IsExit v p before → ⊥
    from_exit (before, y) =
        let e = edge_at v (suc before) in
        let c0 = corner_at v 0 in
        let f = r.inside (suc before) v.plane y.in_range in
        let enough = c.enough in
        let same = (x.extreme c0 (through e c0 p) (corner_closed v c 0 (omega arith)) (exit_closed v p before c r y) (record {
          times_p = value e c0;
          times_q = value e p;
          times_r = pos 1;
          some_p = first_corner_inside v c (suc before) (let t = y.inner in omega arith) y.in_range;
          some_q = f;
          some_r = omega (arith, ints);
          sum = through_sum e c0 p;
        })).0 in
        let s = sym (value_times (edge_at v 0) p.w c0) ∙ ap (value (edge_at v 0)) same ∙ value_times (edge_at v 0) c0.w p in
        let z = ap (λ k. p.w *ℤ k) (corner_on_edge v 0) ∙ *ℤ_zero p.w in
        let m = product_positive c0.w (value (edge_at v 0) p) (c.weight 0 (omega arith)) (r.inside 0 v.plane (omega arith)) in
        omega (arith, linear)

pub vertex_is_corner : (v : Winding) → IsConvex v → (p : Point) → IsVertex v p → IsSomeCorner v p
vertex_is_corner v c p x = ⊎_elim
    (λ s. let b = place_before (length v.edges) s.0 s.1 in
    vertex_on_edge v p c x b.0 b.1 (subst (λ k. IsOn (edge_at v k) p) (sym b.2) s.2))
    (λ a. absurd (vertex_on_some_edge v p c x (record { weight = x.closed.weight; on = x.closed.on; inside = All-from_get_or (λ e. IsInFront e p) v.edges v.plane a })))
    (edge_below v p (length v.edges) (omega arith) x.closed)

-- ---- no three neighbours lie on one line

value_zeros : (g : Plane) → value g four_zeros ≡ pos 0
unfolding value
value_zeros g = let a = *ℤ_zero g.nx in let b = *ℤ_zero g.ny in let d = *ℤ_zero g.nz in let e = *ℤ_zero g.d in omega (arith, linear)

-- the values of a plane add up to 0 too
value_on_line_sum : (g : Plane) (p q r : Point) (l : AreOnOneLine p q r) →
    ((l.times_p *ℤ value g p) +ℤ (l.times_q *ℤ value g q)) +ℤ (l.times_r *ℤ value g r) ≡ pos 0
value_on_line_sum g p q r l =
    let s = value_sum g (point_sum (point_times l.times_p p) (point_times l.times_q q)) (point_times l.times_r r) in
    let t = value_sum g (point_times l.times_p p) (point_times l.times_q q) in
    let a = value_times g l.times_p p in
    let b = value_times g l.times_q q in
    let d = value_times g l.times_r r in
    let e = ap (value g) l.sum in
    let z = value_zeros g in
    omega (arith, linear)

no_multiple : (k z : ℤ) → pos 0 <ℤ z → k *ℤ z ≡ pos 0 → k ≡ pos 0
no_multiple k z h e = zero_beside_positive z k h (*ℤ_comm z k ∙ e)

-- The third corner is in front of the edge between the first two, the first in front of the edge between the others: so
-- each multiple is 0.
no_straight_corner : (v : Winding) → IsConvex v → (i : ℕ) → i < length v.edges → HasStraightCorner v i → ⊥
no_straight_corner v c i h l = l.some first second third
  where
    n : ℕ
    n = length v.edges

    j : ℕ
    j = next_place n i

    k : ℕ
    k = next_place n j

    j_below : j < length v.edges
    j_below = next_below n i h

    k_below : k < length v.edges
    k_below = next_below n j j_below

    third : l.times_r ≡ pos 0
    third =
        let s = value_on_line_sum (edge_at v j) (corner_at v i) (corner_at v j) (corner_at v k) l in
        let a = ap (λ x. l.times_p *ℤ x) (corner_on_next v i) ∙ *ℤ_zero l.times_p in
        let b = ap (λ x. l.times_q *ℤ x) (corner_on_edge v j) ∙ *ℤ_zero l.times_q in
        no_multiple l.times_r (value (edge_at v j) (corner_at v k)) (far_corner_in_front v c j j_below) (omega (arith, linear))

    first : l.times_p ≡ pos 0
    first =
        let s = value_on_line_sum (edge_at v k) (corner_at v i) (corner_at v j) (corner_at v k) l in
        let a = ap (λ x. l.times_q *ℤ x) (corner_on_next v j) ∙ *ℤ_zero l.times_q in
        let b = ap (λ x. l.times_r *ℤ x) (corner_on_edge v k) ∙ *ℤ_zero l.times_r in
        let t = c.enough in
        no_multiple l.times_p (value (edge_at v k) (corner_at v i))
        (c.inside i k h k_below (next_next_other n i t h) (next_other n j (omega arith) j_below)) (omega (arith, linear))

    second : l.times_q ≡ pos 0
    second =
        let s = value_on_line_sum (edge_at v i) (corner_at v i) (corner_at v j) (corner_at v k) l in
        let a = ap (λ x. l.times_p *ℤ x) (corner_on_edge v i) ∙ *ℤ_zero l.times_p in
        let b = ap (λ x. x *ℤ value (edge_at v i) (corner_at v k)) third ∙ zero_*ℤ (value (edge_at v i) (corner_at v k)) in
        no_multiple l.times_q (value (edge_at v i) (corner_at v j)) (far_corner_in_front v c i h) (omega (arith, linear))

pub vertices_as_corners : (v : Winding) → IsConvex v → HasVerticesAsCorners v
vertices_as_corners v c = record { enough = c.enough; each = corner_is_vertex v c; all = vertex_is_corner v c; bent = no_straight_corner v c }
