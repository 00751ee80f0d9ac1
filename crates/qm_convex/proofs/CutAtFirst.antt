-- The cut of a winding whose corners in front of the cutting plane are the first ones.
use Rattle.std.proofs.Common.{◌≡◌, ℕ, suc, ◌<◌, ◌≤◌, pos, neg_ℤ, ◌<ℤ◌, ◌≤ℤ◌, List, [], ◌∷◌, ◌++◌, length, take, ◌↔◌, ap, sym, ◌∙◌, arith, subst, ⊎_elim}
use Rattle.std.proofs.lemmas.List.{get_or-take, get_or_append_left, get_or_at, length-take-le, length-append}
use Rattle.std.proofs.lemmas.List.Elements.{All-push, All-take, All-from_get_or}
use Rattle.std.proofs.lemmas.Bool.{cases_eq, cases_lt}
use Rattle.qm_space.specs.Point.{Point}
use Rattle.qm_space.specs.Plane.{Plane, value, IsInFront, IsBehind}
use Rattle.qm_space.specs.Meet.{meet}
use Rattle.qm_numbers.proofs.IntegerProducts.{linear}
use Rattle.qm_convex.specs.Winding.{Winding, next_place, edge_at, corner_at, IsConvex, IsInRegion}
use Rattle.qm_convex.proofs.Places.{next_inner, next_last, next_below, by_next}
use Rattle.qm_convex.proofs.Corners.{corner_not_behind, far_corner_in_front}
use Rattle.qm_convex.proofs.NewCorners.{far_plane, value_far_plane, leaving, entering, value_leaving, value_entering, by_first, by_second, by_neither}
use Rattle.qm_convex.proofs.Central.{hull_in_front}

-- the corners up to the place `before` are in front, the next one isn't, and neither is the last one; if these are one
-- corner, it is strictly behind
pub record IsRunAtFirst (u : Winding) (g : Plane) (before : ℕ) : Type 0 where
  pub last : ℕ
  pub at_last : suc last ≡ length u.edges
  pub not_all : suc before ≤ last
  pub front : (k : ℕ) → k ≤ before → IsInFront g (corner_at u k)
  pub ended : value g (corner_at u (suc before)) ≤ℤ pos 0
  pub began : value g (corner_at u last) ≤ℤ pos 0
  pub behind : suc before ≡ last → IsBehind g (corner_at u last)

-- the edges up to the one after the place `before`, and the cutting plane
abbrev pub cut_at_first : Winding → Plane → ℕ → Winding
cut_at_first u g before = record { plane = u.plane; edges = take (suc (suc before)) u.edges ++ g ∷ [] }

module _ (u : Winding) (g : Plane) (before : ℕ) (c : IsConvex u) (x : IsRunAtFirst u g before) where
  abbrev n : ℕ
  n = length u.edges

  abbrev w : Winding
  w = cut_at_first u g before

  kept : List Plane
  kept = take (suc (suc before)) u.edges

  in_range : suc (suc before) ≤ n
  in_range = let a = x.at_last in let b = x.not_all in omega arith

  kept_length : length (take (suc (suc before)) u.edges) ≡ suc (suc before)
  kept_length = length-take-le (suc (suc before)) u.edges in_range

  cut_length : length w.edges ≡ suc (suc (suc before))
  cut_length = let a = length-append (take (suc (suc before)) u.edges) (g ∷ []) in let b = kept_length in omega arith

  -- ---- the edges of the cut, and its corners

  kept_edge : (k : ℕ) → k ≤ suc before → edge_at w k ≡ edge_at u k
  kept_edge k h =
      get_or_append_left (take (suc (suc before)) u.edges) (g ∷ []) u.plane k (let e = kept_length in omega arith)
      ∙ get_or-take (suc (suc before)) u.edges k u.plane (omega arith)

  new_edge : edge_at w (suc (suc before)) ≡ g
  new_edge = get_or_at (take (suc (suc before)) u.edges) g [] u.plane (suc (suc before)) kept_length

  kept_corner : (k : ℕ) → k ≤ before → corner_at w k ≡ corner_at u k
  unfolding corner_at
  kept_corner k h =
      let here = next_inner (length w.edges) k (let e = cut_length in omega arith) in
      let there = next_inner n k (let e = in_range in omega arith) in
      (λ t. meet u.plane (kept_edge k (omega arith) t) (edge_at w (here t)))
      ∙ ap (λ e. meet u.plane (edge_at u k) e) (kept_edge (suc k) (omega arith) ∙ ap (edge_at u) (sym there))

  after_before : next_place n before ≡ suc before
  after_before = next_inner n before in_range

  leaving_corner : corner_at w (suc before) ≡ leaving u g before
  unfolding corner_at
  leaving_corner =
      let here = next_inner (length w.edges) (suc before) (let e = cut_length in omega arith) in
      (λ t. meet u.plane (kept_edge (suc before) (omega arith) t) (edge_at w (here t)))
      ∙ (λ t. meet u.plane (edge_at u (sym after_before t)) (new_edge t))

  after_last : next_place n x.last ≡ 0
  after_last = next_last n x.last x.at_last

  entering_corner : corner_at w (suc (suc before)) ≡ entering u g x.last
  unfolding corner_at
  entering_corner =
      let here = next_last (length w.edges) (suc (suc before)) (let e = cut_length in omega arith) in
      (λ t. meet u.plane (new_edge t) (edge_at w (here t)))
      ∙ ap (λ e. meet u.plane g e) (kept_edge 0 (omega arith) ∙ ap (edge_at u) (sym after_last))

  -- ---- the plane's values at the ends of the two edges that it crosses

  near_below : before < n
  near_below = let a = in_range in omega arith

  last_below : x.last < n
  last_below = let a = x.at_last in omega arith

  leaving_near : pos 0 <ℤ value g (corner_at u before)
  leaving_near = x.front before (omega arith)

  leaving_far : value g (corner_at u (next_place n before)) ≤ℤ pos 0
  leaving_far = subst (λ k. value g (corner_at u k) ≤ℤ pos 0) (sym after_before) x.ended

  entering_far : pos 0 <ℤ value g (corner_at u (next_place n x.last))
  entering_far = subst (λ k. pos 0 <ℤ value g (corner_at u k)) (sym after_last) (x.front 0 (omega arith))

  -- ---- the new corners are points, in front of the edges that are kept, and behind no edge

  leaving_weight : pos 0 <ℤ (leaving u g before).w
  leaving_weight =
      let far = corner_at u (next_place n before) in
      let near = corner_at u before in
      let e = value_far_plane (leaving u g before) in
      let ef = value_far_plane far in
      let en = value_far_plane near in
      let a = c.weight (next_place n before) (next_below n before near_below) in
      let b = c.weight before near_below in
      let l = leaving_far in
      let s = by_first (value (edge_at u before) far) (value far_plane (leaving u g before)) (value g near) (value far_plane far) (neg_ℤ (value g far)) (value far_plane near)
      (value_leaving u g before far_plane) (far_corner_in_front u c before near_below) leaving_near (omega (arith, linear)) (omega (arith, linear)) (omega (arith, linear)) in
      omega (arith, linear)

  entering_weight : pos 0 <ℤ (entering u g x.last).w
  entering_weight =
      let far = corner_at u (next_place n x.last) in
      let near = corner_at u x.last in
      let e = value_far_plane (entering u g x.last) in
      let ef = value_far_plane far in
      let en = value_far_plane near in
      let a = c.weight (next_place n x.last) (next_below n x.last last_below) in
      let b = c.weight x.last last_below in
      let l = x.began in
      let s = by_second (value (edge_at u x.last) far) (value far_plane (entering u g x.last)) (neg_ℤ (value g near)) (value far_plane far) (value g far) (value far_plane near)
      (value_entering u g x.last far_plane) (far_corner_in_front u c x.last last_below) (omega (arith, linear)) (omega (arith, linear)) entering_far (omega (arith, linear)) in
      omega (arith, linear)

  leaving_not_behind : (k : ℕ) → k < n → pos 0 ≤ℤ value (edge_at u k) (leaving u g before)
  leaving_not_behind k h =
      let far = corner_at u (next_place n before) in
      let near = corner_at u before in
      let f = edge_at u k in
      let l = leaving_far in
      let m = leaving_near in
      by_neither (value (edge_at u before) far) (value f (leaving u g before)) (value g near) (value f far) (neg_ℤ (value g far)) (value f near)
      (value_leaving u g before f) (far_corner_in_front u c before near_below) (omega (arith, linear))
      (corner_not_behind u c (next_place n before) k (next_below n before near_below) h) (omega (arith, linear)) (corner_not_behind u c before k near_below h)

  entering_not_behind : (k : ℕ) → k < n → pos 0 ≤ℤ value (edge_at u k) (entering u g x.last)
  entering_not_behind k h =
      let far = corner_at u (next_place n x.last) in
      let near = corner_at u x.last in
      let f = edge_at u k in
      let l = entering_far in
      let m = x.began in
      by_neither (value (edge_at u x.last) far) (value f (entering u g x.last)) (neg_ℤ (value g near)) (value f far) (value g far) (value f near)
      (value_entering u g x.last f) (far_corner_in_front u c x.last last_below) (omega (arith, linear))
      (corner_not_behind u c (next_place n x.last) k (next_below n x.last last_below) h) (omega (arith, linear)) (corner_not_behind u c x.last k last_below h)

  leaving_in_front : (k : ℕ) → k ≤ before → IsInFront (edge_at u k) (leaving u g before)
  leaving_in_front k h =
      let far = corner_at u (next_place n before) in
      let near = corner_at u before in
      let f = edge_at u k in
      let l = leaving_far in
      let m = leaving_near in
      let kn : k < n = let a = in_range in omega arith in
      let fb = next_below n before near_below in
      let ab = after_before in
      let enough = c.enough in
      let at_last = x.at_last in
      by_next n (next_place n before) fb
      (λ s e. by_first (value (edge_at u before) far) (value f (leaving u g before)) (value g near) (value f far) (neg_ℤ (value g far)) (value f near)
      (value_leaving u g before f) (far_corner_in_front u c before near_below) m
      (c.inside (next_place n before) k fb kn (λ y. omega arith) (λ y. omega arith)) (omega (arith, linear)) (corner_not_behind u c before k near_below kn))
      (λ s e. ⊎_elim
      (λ z. by_second (value (edge_at u before) far) (value f (leaving u g before)) (value g near) (value f far) (neg_ℤ (value g far)) (value f near)
      (value_leaving u g before f) (far_corner_in_front u c before near_below) (omega (arith, linear))
      (corner_not_behind u c (next_place n before) k fb kn)
      (let y : suc before ≡ x.last = omega arith in
      let strict : IsBehind g far = subst (λ j. IsBehind g (corner_at u j)) (sym y ∙ sym ab) (x.behind y) in
      omega (arith, linear))
      (c.inside before k near_below kn (λ y. omega arith) (λ y. omega arith)))
      (λ z. by_first (value (edge_at u before) far) (value f (leaving u g before)) (value g near) (value f far) (neg_ℤ (value g far)) (value f near)
      (value_leaving u g before f) (far_corner_in_front u c before near_below) m
      (c.inside (next_place n before) k fb kn (λ y. omega arith) (λ y. z (y ∙ e))) (omega (arith, linear)) (corner_not_behind u c before k near_below kn))
      (cases_eq k 0))

  entering_in_front : (k : ℕ) → 1 ≤ k → k ≤ suc before → IsInFront (edge_at u k) (entering u g x.last)
  entering_in_front k i h =
      let far = corner_at u (next_place n x.last) in
      let near = corner_at u x.last in
      let f = edge_at u k in
      let l = entering_far in
      let m = x.began in
      let kn : k < n = let a = in_range in omega arith in
      let fb = next_below n x.last last_below in
      let al = after_last in
      let enough = c.enough in
      let at_last = x.at_last in
      let not_all = x.not_all in
      let first = next_inner n 0 (omega arith) in
      ⊎_elim
      (λ z. by_first (value (edge_at u x.last) far) (value f (entering u g x.last)) (neg_ℤ (value g near)) (value f far) (value g far) (value f near)
      (value_entering u g x.last f) (far_corner_in_front u c x.last last_below)
      (let strict = x.behind (omega arith) in omega (arith, linear))
      (c.inside (next_place n x.last) k fb kn (λ y. omega arith) (λ y. not_second k z (y ∙ ap (next_place n) al ∙ first)))
      (omega (arith, linear)) (corner_not_behind u c x.last k last_below kn))
      (λ z. by_second (value (edge_at u x.last) far) (value f (entering u g x.last)) (neg_ℤ (value g near)) (value f far) (value g far) (value f near)
      (value_entering u g x.last f) (far_corner_in_front u c x.last last_below) (omega (arith, linear))
      (corner_not_behind u c (next_place n x.last) k fb kn) l
      (c.inside x.last k last_below kn z (λ y. omega arith)))
      (cases_eq k x.last)
    where
      not_second : (k : ℕ) → k ≡ x.last → k ≡ 1 → ⊥
      not_second k z y = let enough = c.enough in let at_last = x.at_last in omega arith

  -- ---- the cut is convex

  at_end : (k : ℕ) → k < length w.edges → (k ≤ suc before → ⊥) → k ≡ suc (suc before)
  at_end k h f = let e = cut_length in omega (arith, f)

  cut_weight : (i : ℕ) → i < length w.edges → pos 0 <ℤ (corner_at w i).w
  cut_weight i h = ⊎_elim
      (λ l. subst (λ p. pos 0 <ℤ p.w) (sym (kept_corner i (omega arith))) (c.weight i (let a = in_range in omega arith)))
      (λ l. ⊎_elim
      (λ e. subst (λ p. pos 0 <ℤ p.w) (sym (ap (corner_at w) e ∙ leaving_corner)) leaving_weight)
      (λ f. subst (λ p. pos 0 <ℤ p.w) (sym (ap (corner_at w) (at_end i h (λ m. f (omega arith))) ∙ entering_corner)) entering_weight)
      (cases_eq i (suc before)))
      (cases_lt i (suc before))

  cut_inside : (i k : ℕ) → i < length w.edges → k < length w.edges → (k ≡ i → ⊥) → (k ≡ next_place (length w.edges) i → ⊥) → IsInFront (edge_at w k) (corner_at w i)
  cut_inside i k h l f s = ⊎_elim
      (λ a. ⊎_elim
      (λ b. at_kept_corner a b)
      (λ b. at_kept_corner_new_edge a (at_end k l (λ m. omega arith)))
      (cases_lt k (suc (suc before))))
      (λ a. ⊎_elim
      (λ e. at_leaving e)
      (λ e. at_entering (at_end i h (λ m. e (omega arith))))
      (cases_eq i (suc before)))
      (cases_lt i (suc before))
    where
      len : length w.edges ≡ suc (suc (suc before))
      len = cut_length

      at_kept_corner : i < suc before → k < suc (suc before) → IsInFront (edge_at w k) (corner_at w i)
      at_kept_corner a b =
          let range = in_range in
          let old = next_inner n i (omega arith) in
          let new = next_inner (length w.edges) i (omega (arith, len)) in
          subst (λ e. IsInFront e (corner_at w i)) (sym (kept_edge k (omega arith)))
          (subst (λ p. IsInFront (edge_at u k) p) (sym (kept_corner i (omega arith)))
          (c.inside i k (omega arith) (omega arith) f (λ e. s (e ∙ old ∙ sym new))))

      at_kept_corner_new_edge : i < suc before → k ≡ suc (suc before) → IsInFront (edge_at w k) (corner_at w i)
      at_kept_corner_new_edge a e =
          subst (λ e. IsInFront e (corner_at w i)) (sym (ap (edge_at w) e ∙ new_edge))
          (subst (λ p. IsInFront g p) (sym (kept_corner i (omega arith))) (x.front i (omega arith)))

      at_leaving : i ≡ suc before → IsInFront (edge_at w k) (corner_at w i)
      at_leaving e =
          let new = next_inner (length w.edges) i (omega (arith, len)) in
          let b : k ≤ before = omega (arith, len, f, (λ (y : k ≡ suc i). s (y ∙ sym new))) in
          subst (λ d. IsInFront d (corner_at w i)) (sym (kept_edge k (omega arith)))
          (subst (λ p. IsInFront (edge_at u k) p) (sym (ap (corner_at w) e ∙ leaving_corner)) (leaving_in_front k b))

      at_entering : i ≡ suc (suc before) → IsInFront (edge_at w k) (corner_at w i)
      at_entering e =
          let new = next_last (length w.edges) i (omega (arith, len)) in
          let b : k ≤ suc before = omega (arith, len, f) in
          let d : 1 ≤ k = omega (arith, (λ (y : k ≡ 0). s (y ∙ sym new))) in
          subst (λ d. IsInFront d (corner_at w i)) (sym (kept_edge k (omega arith)))
          (subst (λ p. IsInFront (edge_at u k) p) (sym (ap (corner_at w) e ∙ entering_corner)) (entering_in_front k d b))

  pub cut_at_first_convex : IsConvex w
  cut_at_first_convex = record { enough = let e = cut_length in omega arith; weight = cut_weight; inside = cut_inside }

  -- ---- its points are those of the winding that are in front of the plane

  cut_to_whole : (p : Point) → IsInRegion w p → IsInRegion u p × IsInFront g p
  cut_to_whole p r = (
    record { weight = r.weight; on = r.on; inside = All-from_get_or (λ e. IsInFront e p) u.edges u.plane each },
    subst (λ e. IsInFront e p) new_edge (r.inside (suc (suc before)) u.plane (let e = cut_length in omega arith)),
  )
    where
      -- an edge left out has the first corner strictly in front of it, and no corner of the cut behind it
      left_out : (k : ℕ) → k < n → suc (suc before) ≤ k → IsInFront (edge_at u k) p
      left_out k h l =
          hull_in_front w (edge_at u k) cut_at_first_convex corners 0 (let e = cut_length in omega arith)
          (subst (λ q. IsInFront (edge_at u k) q) (sym (kept_corner 0 (omega arith)))
          (let first = next_inner n 0 (omega arith) in c.inside 0 k (omega arith) h (λ e. omega arith) (λ e. omega arith))) p r
        where
          corners : (i : ℕ) → i < length w.edges → pos 0 ≤ℤ value (edge_at u k) (corner_at w i)
          corners i m = ⊎_elim
              (λ a. subst (λ q. pos 0 ≤ℤ value (edge_at u k) q) (sym (kept_corner i (omega arith))) (corner_not_behind u c i k (let range = in_range in omega arith) h))
              (λ a. ⊎_elim
              (λ e. subst (λ q. pos 0 ≤ℤ value (edge_at u k) q) (sym (ap (corner_at w) e ∙ leaving_corner)) (leaving_not_behind k h))
              (λ e. subst (λ q. pos 0 ≤ℤ value (edge_at u k) q) (sym (ap (corner_at w) (at_end i m (λ b. e (omega arith))) ∙ entering_corner)) (entering_not_behind k h))
              (cases_eq i (suc before)))
              (cases_lt i (suc before))

      each : (k : ℕ) → k < length u.edges → IsInFront (edge_at u k) p
      each k h = ⊎_elim
          (λ a. subst (λ e. IsInFront e p) (kept_edge k (omega arith)) (r.inside k u.plane (let e = cut_length in omega arith)))
          (λ a. left_out k h a)
          (cases_lt k (suc (suc before)))

  whole_to_cut : (p : Point) → IsInRegion u p → IsInFront g p → IsInRegion w p
  whole_to_cut p r f = record {
    weight = r.weight;
    on = r.on;
    inside = All-push (λ e. IsInFront e p) (take (suc (suc before)) u.edges) g (All-take (λ e. IsInFront e p) (suc (suc before)) u.edges r.inside) f;
  }

  pub cut_at_first_region : (p : Point) → IsInRegion w p ↔ (IsInRegion u p × IsInFront g p)
  cut_at_first_region p = (cut_to_whole p, (λ s. whole_to_cut p s.0 s.1))
