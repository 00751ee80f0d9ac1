-- The hull of the corners: a plane that has no corner in front of it has no point of the winding in front of it.
use Rattle.std.proofs.Common.{◌≡◌, ℕ, zero, suc, ◌-◌, ◌<◌, ◌≤◌, ℤ, pos, neg_ℤ, ◌+ℤ◌, ◌*ℤ◌, ◌<ℤ◌, ◌≤ℤ◌, List, [], ◌∷◌, length, get_or, drop, refl, ap, sym, ◌∙◌, arith, subst}
use Rattle.std.proofs.lemmas.List.{length-drop}
use Rattle.std.proofs.Math.IntN.{*ℤ_comm}
use Rattle.qm_space.specs.Point.{Point}
use Rattle.qm_space.specs.Plane.{Plane, value, IsOn, IsInFront}
use Rattle.qm_numbers.specs.Ratio.{Ratio, IsAtMostRatio}
use Rattle.qm_numbers.proofs.IntegerProducts.{linear, *ℤ_zero}
use Rattle.qm_numbers.proofs.Signs.{product_positive, product_not_positive, positive_times_negative, not_positive_beside, negative_beside}
use Rattle.qm_space.proofs.Crossings.{through, value_through}
use Rattle.qm_numbers.proofs.Ratios.{IsLeastAt, least_ratio}
use Rattle.qm_convex.specs.Winding.{Winding, next_place, edge_at, corner_at, IsConvex, IsInRegion}
use Rattle.qm_convex.proofs.Places.{next_inner, next_below}
use Rattle.qm_convex.proofs.Corners.{corner_on_plane, corner_on_edge, corner_on_next, far_corner_in_front, value_on_edge}

no_more : (a b : ℤ) → b ≡ pos 0 → a *ℤ b ≡ pos 0
no_more a b e = ap (λ x. a *ℤ x) e ∙ *ℤ_zero a

-- ---- the ray from the first corner through a point of the winding leaves it at an edge, at the places from 2 on

-- what is known of the edge where the ray leaves: it is the edge after the place `before`, which isn't the first, and no
-- edge is met sooner
pub record IsExit (v : Winding) (p : Point) (before : ℕ) : Type 0 where
  pub inner : 1 ≤ before
  pub in_range : suc before < length v.edges
  pub least : (i : ℕ) → 2 ≤ i → i < length v.edges →
      (value (edge_at v (suc before)) p *ℤ value (edge_at v i) (corner_at v 0)) ≤ℤ (value (edge_at v i) p *ℤ value (edge_at v (suc before)) (corner_at v 0))

-- the first corner lies strictly in front of the edges from the place 2 on
pub first_corner_inside : (v : Winding) → IsConvex v → (i : ℕ) → 2 ≤ i → i < length v.edges → IsInFront (edge_at v i) (corner_at v 0)
first_corner_inside v c i t h =
    let three = c.enough in
    let e = next_inner (length v.edges) 0 (omega arith) in
    c.inside 0 i (omega arith) h (λ f. omega arith) (λ f. omega arith)

after_two : (es : List Plane) (d : Plane) (j : ℕ) → get_or (drop 2 es) j d ≡ get_or es (suc (suc j)) d
after_two [] d j = refl
after_two (x ∷ []) d j = refl
after_two (x ∷ (y ∷ es)) d j = refl

pub exit_of : (v : Winding) (p : Point) → IsConvex v → (before : ℕ) × IsExit v p before
exit_of v p c = found (least_ratio ratio v.plane others (omega (arith, enough, others_length)) under)
  where
    enough : 3 ≤ length v.edges
    enough = c.enough

    ratio : Plane → Ratio
    ratio e = record { over = value e p; under = value e (corner_at v 0) }

    others : List Plane
    others = drop 2 v.edges

    others_length : length others ≡ length v.edges - 2
    others_length = length-drop 2 v.edges

    under : (j : ℕ) → j < length others → pos 0 <ℤ (ratio (get_or others j v.plane)).under
    under j h = let e = others_length in subst (λ x. pos 0 <ℤ value x (corner_at v 0)) (sym (after_two v.edges v.plane j)) (first_corner_inside v c (suc (suc j)) (omega arith) (omega arith))

    found : (k : ℕ) × IsLeastAt ratio v.plane others k → (before : ℕ) × IsExit v p before
    found (k, l) = (suc k, record { inner = omega arith; in_range = let t = l.there in omega (arith, others_length); least = each })
      where
        each : (i : ℕ) → 2 ≤ i → i < length v.edges →
            (value (edge_at v (suc (suc k))) p *ℤ value (edge_at v i) (corner_at v 0)) ≤ℤ (value (edge_at v i) p *ℤ value (edge_at v (suc (suc k))) (corner_at v 0))
        each zero t h = absurd (omega arith)
        each (suc zero) t h = absurd (omega arith)
        each (suc (suc m)) t h =
            subst (λ x. IsAtMostRatio (ratio x) (ratio (edge_at v (suc (suc m))))) (after_two v.edges v.plane k)
            (subst (λ x. IsAtMostRatio (ratio (get_or others k v.plane)) (ratio x)) (after_two v.edges v.plane m) (l.least m (omega (arith, others_length))))

-- ---- the point where the ray leaves

-- it is behind no edge
pub exit_not_behind : (v : Winding) (p : Point) (before : ℕ) → IsConvex v → IsInRegion v p → IsExit v p before →
    (i : ℕ) → i < length v.edges → pos 0 ≤ℤ value (edge_at v i) (through (edge_at v (suc before)) (corner_at v 0) p)
exit_not_behind v p before c r x i h =
    let n = length v.edges in
    let enough = c.enough in
    let e = edge_at v (suc before) in
    let q = value_through (edge_at v i) e (corner_at v 0) p in
    let d = first_corner_inside v c (suc before) (let t = x.inner in omega arith) x.in_range in
    let f = r.inside i v.plane h in
    let m = product_positive (value e (corner_at v 0)) (value (edge_at v i) p) d f in
    let first = next_inner n 0 (omega arith) in
    at i m q h first
  where
    at : (i : ℕ) → pos 0 <ℤ (value (edge_at v (suc before)) (corner_at v 0) *ℤ value (edge_at v i) p) →
        value (edge_at v i) (through (edge_at v (suc before)) (corner_at v 0) p) ≡ (value (edge_at v (suc before)) (corner_at v 0) *ℤ value (edge_at v i) p) +ℤ neg_ℤ (value (edge_at v (suc before)) p *ℤ value (edge_at v i) (corner_at v 0)) →
        i < length v.edges → next_place (length v.edges) 0 ≡ 1 →
        pos 0 ≤ℤ value (edge_at v i) (through (edge_at v (suc before)) (corner_at v 0) p)
    at zero m q h s = let z = no_more (value (edge_at v (suc before)) p) (value (edge_at v 0) (corner_at v 0)) (corner_on_edge v 0) in omega (arith, linear)
    at (suc zero) m q h s = let z = no_more (value (edge_at v (suc before)) p) (value (edge_at v 1) (corner_at v 0)) (ap (λ j. value (edge_at v j) (corner_at v 0)) (sym s) ∙ corner_on_next v 0) in omega (arith, linear)
    at (suc (suc i)) m q h s =
        let l = x.least (suc (suc i)) (omega arith) h in
        let w = *ℤ_comm (value (edge_at v (suc (suc i))) p) (value (edge_at v (suc before)) (corner_at v 0)) in
        omega (arith, linear)

-- a plane with no corner in front of it does not have it in front
exit_at_most : (v : Winding) (p : Point) (before : ℕ) (g : Plane) → IsConvex v → IsInRegion v p → IsExit v p before →
    ((i : ℕ) → i < length v.edges → value g (corner_at v i) ≤ℤ pos 0) →
    value g (through (edge_at v (suc before)) (corner_at v 0) p) ≤ℤ pos 0
exit_at_most v p before g c r x a =
    let n = length v.edges in
    let h = x.in_range in
    let l : before < n = omega arith in
    let step = next_inner n before h in
    let e = edge_at v (suc before) in
    let q = through e (corner_at v 0) p in
    let on = value_through v.plane e (corner_at v 0) p in
    let on_p = no_more (value e (corner_at v 0)) (value v.plane p) r.on in
    let on_c = no_more (value e p) (value v.plane (corner_at v 0)) (corner_on_plane v 0) in
    let on_e = value_through e e (corner_at v 0) p in
    let turned = *ℤ_comm (value e (corner_at v 0)) (value e p) in
    let on_next : IsOn (edge_at v (next_place n before)) q = subst (λ j. IsOn (edge_at v j) q) (sym step) (omega (arith, linear)) in
    let between = value_on_edge v g before q (omega (arith, linear)) on_next in
    let far = far_corner_in_front v c before l in
    let near_part = exit_not_behind v p before c r x before l in
    let next = next_below n before l in
    let far_part = exit_not_behind v p before c r x (next_place n (next_place n before)) (next_below n (next_place n before) next) in
    let one = product_not_positive (value (edge_at v before) q) (value g (corner_at v (next_place n before))) near_part (a (next_place n before) next) in
    let two = product_not_positive (value (edge_at v (next_place n (next_place n before))) q) (value g (corner_at v before)) far_part (a before l) in
    not_positive_beside (value (edge_at v before) (corner_at v (next_place n before))) (value g q) far (omega (arith, linear))

-- ---- the laws

-- a plane that has no corner in front of it has no point of the winding in front of it
pub hull : (v : Winding) (g : Plane) → IsConvex v → ((i : ℕ) → i < length v.edges → value g (corner_at v i) ≤ℤ pos 0) →
    (p : Point) → IsInRegion v p → value g p ≤ℤ pos 0
hull v g c a p r = from_exit (exit_of v p c)
  where
    from_exit : (before : ℕ) × IsExit v p before → value g p ≤ℤ pos 0
    from_exit (before, x) =
        let enough = c.enough in
        let e = edge_at v (suc before) in
        let l = exit_at_most v p before g c r x a in
        let q = value_through g e (corner_at v 0) p in
        let f = r.inside (suc before) v.plane x.in_range in
        let m = product_not_positive (value e p) (value g (corner_at v 0)) (omega (arith, linear)) (a 0 (omega arith)) in
        let d = first_corner_inside v c (suc before) (let t = x.inner in omega arith) x.in_range in
        not_positive_beside (value e (corner_at v 0)) (value g p) d (omega (arith, linear))

-- and if the first corner is strictly behind it, it has each point of the winding strictly behind it
pub hull_strict_at_first : (v : Winding) (g : Plane) → IsConvex v → ((i : ℕ) → i < length v.edges → value g (corner_at v i) ≤ℤ pos 0) →
    value g (corner_at v 0) <ℤ pos 0 → (p : Point) → IsInRegion v p → value g p <ℤ pos 0
hull_strict_at_first v g c a s p r = from_exit (exit_of v p c)
  where
    from_exit : (before : ℕ) × IsExit v p before → value g p <ℤ pos 0
    from_exit (before, x) =
        let e = edge_at v (suc before) in
        let l = exit_at_most v p before g c r x a in
        let q = value_through g e (corner_at v 0) p in
        let f = r.inside (suc before) v.plane x.in_range in
        let m = positive_times_negative (value e p) (value g (corner_at v 0)) f s in
        let d = first_corner_inside v c (suc before) (let t = x.inner in omega arith) x.in_range in
        negative_beside (value e (corner_at v 0)) (value g p) d (omega (arith, linear))
