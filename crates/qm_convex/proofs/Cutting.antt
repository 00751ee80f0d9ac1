-- Cutting a winding by a plane.
use Rattle.std.proofs.Common.{◌≡◌, ℕ, zero, suc, ◌-◌, ◌<◌, ◌≤◌, pos, ◌≤ℤ◌, List, [], ◌∷◌, ◌++◌, length, get_or, take, drop, ◌↔◌, refl, ap, sym, ◌∙◌, arith, subst, ◌⊎◌, inl, inr, ⊎_elim}
use Rattle.std.specs.List.{All, Contains}
use Rattle.std.proofs.lemmas.Bool.{cases_eq, cases_lt}
use Rattle.std.proofs.lemmas.List.{ext_get_or, get_or-take, get_or_append_left, get_or-append_right, get_or_at, length-take-le, length-append}
use Rattle.std.proofs.lemmas.List.Elements.{All-nil, All-push, All-take, All-drop, All-append, All-from_get_or, Contains-append_left, Contains-push}
use Rattle.qm_lists.proofs.Elements.{All-first_part, Contains-first}
use Rattle.qm_space.specs.Point.{Point}
use Rattle.qm_space.specs.Plane.{Plane, value, IsInFront, IsBehind, flipped}
use Rattle.qm_space.specs.Meet.{meet}
use Rattle.qm_numbers.proofs.IntegerProducts.{linear}
use Rattle.qm_numbers.proofs.Signs.{by_least, by_sign}
use Rattle.qm_space.proofs.Planes.{value_flipped}
use Rattle.qm_convex.specs.Winding.{Winding, edge_at, corner_at, corners, IsConvex, IsInRegion}
use Rattle.qm_convex.proofs.Corners.{corners_by_place, corners_length, corner_in_list}
use Rattle.qm_convex.specs.Rotation.{place_after, rotated_list, rotated}
use Rattle.qm_convex.specs.Sides.{HasCornerInFront, HasCornerBehind, IsWhollyInFront, HasSomeInFront}
use Rattle.qm_convex.specs.Cut.{IsPartInFront, IsParted, IsPartWithin}
use Rattle.qm_convex.specs.inner.FrontRun.{IsFrontRun, cut}
use Rattle.qm_convex.proofs.Among.{first_among, second_among, own_edges, own_edges_later, edges_of_part, edges_within}
use Rattle.qm_convex.proofs.Places.{after_below, after_none, after_next, next_inner, next_last, next_injective, steps_to}
use Rattle.qm_convex.proofs.Rotation.{rotated_list_length, rotated_list_at, rotated_length, rotated_edge, rotated_corner, rotated_convex, rotated_region}
use Rattle.qm_convex.proofs.Central.{middle, middle_in_region, some_in_front}
use Rattle.qm_convex.proofs.CutAtFirst.{IsRunAtFirst, cut_at_first_convex, cut_at_first_region}

-- read from the first corner in front, the winding has its corners in front first
run_at_first : (v : Winding) (g : Plane) (start before : ℕ) → IsFrontRun v g start (suc before) → HasCornerBehind v g → IsRunAtFirst (rotated start v) g before
run_at_first v g start before x (b, b_below, b_behind) = record {
  last = n - 1;
  at_last = let e = same in let a = x.in_range in omega arith;
  not_all = let a = x.not_all in omega arith;
  front = λ k h. at (λ q. IsInFront g q) k (let a = x.not_all in omega arith) (x.front k (omega arith));
  ended = at (λ q. value g q ≤ℤ pos 0) (suc before) x.not_all x.ended;
  began = at (λ q. value g q ≤ℤ pos 0) (n - 1) (let a = x.in_range in omega arith) x.began;
  behind = λ e. at (λ q. IsBehind g q) (n - 1) (let a = x.in_range in omega arith) (behind_last e (steps_to n start b x.in_range b_below));
}
  where
    n : ℕ
    n = length v.edges

    same : length (rotated start v).edges ≡ length v.edges
    same = rotated_length start v (let a = x.in_range in omega arith)

    at : (P : Point → Type 0) (k : ℕ) → k < length v.edges → P (corner_at v (place_after (length v.edges) start k)) → P (corner_at (rotated start v) k)
    at P k h t = subst P (sym (rotated_corner start v k (let a = x.in_range in omega arith) h)) t

    -- where all corners but one are in front, the one behind is that one
    behind_last : suc before ≡ n - 1 → (j : ℕ) × (j < n) × (place_after n start j ≡ b) → IsBehind g (corner_at v (place_after n start (n - 1)))
    behind_last e (j, l, p) = ⊎_elim
        (λ h. let f = subst (λ k. IsInFront g (corner_at v k)) p (x.front j h) in absurd (omega (arith, linear)))
        (λ h. subst (λ k. IsBehind g (corner_at v k)) (sym p ∙ ap (place_after n start) (omega arith)) b_behind)
        (cases_lt j (suc before))

-- the cut by the run of corners in front is convex
pub cut_convex : (v : Winding) (g : Plane) (start count : ℕ) → IsConvex v → IsFrontRun v g start count → HasCornerBehind v g → IsConvex (cut v g start count)
cut_convex v g start zero c x b = absurd (let a = x.some in omega arith)
cut_convex v g start (suc before) c x b =
    cut_at_first_convex (rotated start v) g before (rotated_convex start v (let a = x.in_range in omega arith) c) (run_at_first v g start before x b)

-- and its points are exactly the winding's points in front of the plane
pub cut_region : (v : Winding) (g : Plane) (start count : ℕ) → IsConvex v → IsFrontRun v g start count → HasCornerBehind v g →
    (p : Point) → IsInRegion (cut v g start count) p ↔ (IsInRegion v p × IsInFront g p)
cut_region v g start zero c x b p = absurd (let a = x.some in omega arith)
cut_region v g start (suc before) c x b p =
    let t = rotated_region start v p x.in_range in
    let r = cut_at_first_region (rotated start v) g before (rotated_convex start v (let a = x.in_range in omega arith) c) (run_at_first v g start before x b) p in
    ((λ s. let q = r.0 s in (t.0 q.0, q.1)), (λ s. r.1 (t.1 s.0, s.1)))

-- ---- a winding with a corner in front and a corner behind has such a run

-- the first place where the first of two cases holds, or no place
first_place : {P Q : ℕ → Type 0} (decide : (k : ℕ) → P k ⊎ Q k) (m : ℕ) →
    ((k : ℕ) × (k < m) × P k × ((j : ℕ) → j < k → Q j)) ⊎ ((j : ℕ) → j < m → Q j)
first_place decide zero = inr (λ j h. absurd (omega arith))
first_place {P} {Q} decide (suc m) = ⊎_elim
    (λ s. inl (s.0, omega (arith, s.1), s.2, s.3))
    (λ a. ⊎_elim
    (λ p. inl (m, omega arith, p, a))
    (λ q. inr (λ j h. ⊎_elim (λ e. subst Q (sym e) q) (λ f. a j (omega (arith, f))) (cases_eq j m)))
    (decide m))
    (first_place decide m)

-- the place before a place n - 1 steps on is the place itself
round : (n i k : ℕ) → i < n → suc k < n → place_after n (place_after n i (suc k)) (n - 1) ≡ place_after n i k
round n i k h l =
    let s = place_after n i (suc k) in
    let sl : s < n = after_below n i (suc k) (omega arith) l in
    next_injective n (place_after n s (n - 1)) (place_after n i k) (after_below n s (n - 1) (omega arith) (omega arith)) (after_below n i k (omega arith) (omega arith))
    (sym (after_next n s (n - 1) (omega arith) (omega arith)) ∙ ap (place_after n s) (next_last n (n - 1) (omega arith)) ∙ after_none n s sl
    ∙ ap (place_after n i) (sym (next_inner n k l)) ∙ after_next n i k (omega arith) (omega arith))

pub front_run : (v : Winding) (g : Plane) → HasCornerInFront v g → HasCornerBehind v g → (start : ℕ) × (count : ℕ) × IsFrontRun v g start count
front_run v g (a, a_below, a_front) (b, b_below, b_behind) = from_steps (steps_to n b a b_below a_below)
  where
    n : ℕ
    n = length v.edges

    IsFront : ℕ → ℕ → Type 0
    IsFront i k = IsInFront g (corner_at v (place_after n i k))

    IsNotFront : ℕ → ℕ → Type 0
    IsNotFront i k = value g (corner_at v (place_after n i k)) ≤ℤ pos 0

    front_or_not : (i k : ℕ) → IsFront i k ⊎ IsNotFront i k
    front_or_not i k = by_least (pos 0) (value g (corner_at v (place_after n i k))) inl inr

    not_or_front : (i k : ℕ) → IsNotFront i k ⊎ IsFront i k
    not_or_front i k = by_least (pos 0) (value g (corner_at v (place_after n i k))) inr inl

    -- the run's start, as so many steps from the corner behind; its last place is not in front
    from_start : (k : ℕ) → suc k < n → IsNotFront b k → IsFront b (suc k) → (start : ℕ) × (count : ℕ) × IsFrontRun v g start count
    from_start k h before here = from_count (first_place (not_or_front start) (n - 1))
      where
        start : ℕ
        start = place_after n b (suc k)

        start_below : start < n
        start_below = after_below n b (suc k) (omega (arith, b_below)) h

        began : IsNotFront start (n - 1)
        began = subst (λ p. value g (corner_at v p) ≤ℤ pos 0) (sym (round n b k b_below h)) before

        front_at_start : IsFront start 0
        front_at_start = subst (λ p. IsInFront g (corner_at v p)) (sym (after_none n start start_below)) here

        run : (count : ℕ) → count < n → IsNotFront start count → ((j : ℕ) → j < count → IsFront start j) → (start : ℕ) × (count : ℕ) × IsFrontRun v g start count
        run zero l e f = absurd (let s = front_at_start in omega (arith, linear))
        run (suc count) l e f = (start, suc count, record { in_range = start_below; some = omega arith; not_all = l; front = f; ended = e; began = began })

        from_count : ((c : ℕ) × (c < n - 1) × IsNotFront start c × ((j : ℕ) → j < c → IsFront start j)) ⊎ ((j : ℕ) → j < n - 1 → IsFront start j) →
            (start : ℕ) × (count : ℕ) × IsFrontRun v g start count
        from_count (inl s) = run s.0 (omega (arith, s.1)) s.2 s.3
        from_count (inr f) = run (n - 1) (omega (arith, b_below)) began f

    from_first : (m : ℕ) → m < n → IsFront b m → ((k : ℕ) × (k < m) × IsFront b k × ((j : ℕ) → j < k → IsNotFront b j)) ⊎ ((j : ℕ) → j < m → IsNotFront b j) →
        (start : ℕ) × (count : ℕ) × IsFrontRun v g start count
    from_first m h here (inl (zero, l, f, q)) = absurd (first_not_in_front f)
      where
        first_not_in_front : IsFront b 0 → ⊥
        first_not_in_front f = let s = subst (λ p. IsInFront g (corner_at v p)) (after_none n b b_below) f in omega (arith, linear, b_behind)
    from_first m h here (inl (suc k, l, f, q)) = from_start k (omega arith) (q k (omega arith)) f
    from_first zero h here (inr q) = absurd (first_not_in_front here)
      where
        first_not_in_front : IsFront b 0 → ⊥
        first_not_in_front f = let s = subst (λ p. IsInFront g (corner_at v p)) (after_none n b b_below) f in omega (arith, linear, b_behind)
    from_first (suc k) h here (inr q) = from_start k h (q k (omega arith)) here

    from_steps : (j : ℕ) × (j < n) × (place_after n b j ≡ a) → (start : ℕ) × (count : ℕ) × IsFrontRun v g start count
    from_steps (j, l, p) = from_first j l (subst (λ k. IsInFront g (corner_at v k)) (sym p) a_front) (first_place (front_or_not b) j)

-- ---- the edges of the cut, by place: a loop that writes them one by one makes this list

module _ (v : Winding) (g : Plane) (start count : ℕ) (h : start ≤ length v.edges) (l : count < length v.edges) where
  kept_length : length (take (suc count) (rotated start v).edges) ≡ suc count
  kept_length = length-take-le (suc count) (rotated start v).edges (let e = rotated_length start v h in omega arith)

  pub cut_length : length (cut v g start count).edges ≡ suc (suc count)
  cut_length = let a = length-append (take (suc count) (rotated start v).edges) (g ∷ []) in let b = kept_length in omega arith

  pub cut_edge_kept : (k : ℕ) → k ≤ count → edge_at (cut v g start count) k ≡ edge_at v (place_after (length v.edges) start k)
  cut_edge_kept k m =
      get_or_append_left (take (suc count) (rotated start v).edges) (g ∷ []) v.plane k (let e = kept_length in omega arith)
      ∙ get_or-take (suc count) (rotated start v).edges k v.plane (omega arith)
      ∙ rotated_edge start v k h (omega arith)

  pub cut_edge_new : edge_at (cut v g start count) (suc count) ≡ g
  cut_edge_new = get_or_at (take (suc count) (rotated start v).edges) g [] v.plane (suc count) kept_length

  pub cut_edges_by_place : (es : List Plane) → length es ≡ suc (suc count) →
      ((k : ℕ) → k ≤ count → get_or es k v.plane ≡ edge_at v (place_after (length v.edges) start k)) → get_or es (suc count) v.plane ≡ g →
      es ≡ (cut v g start count).edges
  cut_edges_by_place es s f e = ext_get_or v.plane es (cut v g start count).edges (s ∙ sym cut_length) each
    where
      each : (k : ℕ) → k < length es → get_or es k v.plane ≡ edge_at (cut v g start count) k
      each k m = ⊎_elim
          (λ a. f k (omega arith) ∙ sym (cut_edge_kept k (omega arith)))
          (λ a. let b : k ≡ suc count = omega arith in ap (λ j. get_or es j v.plane) b ∙ e ∙ sym (ap (edge_at (cut v g start count)) b ∙ cut_edge_new))
          (cases_lt k (suc count))

  -- ---- and its corners: those in front, and the two where the plane crosses an edge

  pub cut_corner_kept : (k : ℕ) → k < count → corner_at (cut v g start count) k ≡ corner_at v (place_after (length v.edges) start k)
  unfolding corner_at
  cut_corner_kept k m =
      let here = next_inner (length (cut v g start count).edges) k (let e = cut_length in omega arith) in
      let there = next_inner (length v.edges) k (omega arith) in
      (λ t. meet v.plane (cut_edge_kept k (omega arith) t) (edge_at (cut v g start count) (here t)))
      ∙ ap (λ e. meet v.plane (edge_at v (place_after (length v.edges) start k)) e)
      (cut_edge_kept (suc k) (omega arith) ∙ ap (edge_at v) (ap (place_after (length v.edges) start) (sym there) ∙ after_next (length v.edges) start k h (omega arith)))

  pub cut_corner_leaving : corner_at (cut v g start count) count ≡ meet v.plane (edge_at v (place_after (length v.edges) start count)) g
  unfolding corner_at
  cut_corner_leaving =
      let here = next_inner (length (cut v g start count).edges) count (let e = cut_length in omega arith) in
      (λ t. meet v.plane (cut_edge_kept count (omega arith) t) (edge_at (cut v g start count) (here t)))
      ∙ ap (λ e. meet v.plane (edge_at v (place_after (length v.edges) start count)) e) cut_edge_new

  pub cut_corner_entering : corner_at (cut v g start count) (suc count) ≡ meet v.plane g (edge_at v (place_after (length v.edges) start 0))
  unfolding corner_at
  cut_corner_entering =
      let here = next_last (length (cut v g start count).edges) (suc count) (let e = cut_length in omega arith) in
      (λ t. meet v.plane (cut_edge_new t) (edge_at (cut v g start count) (here t)))
      ∙ ap (λ e. meet v.plane g e) (cut_edge_kept 0 (omega arith))

  pub cut_corners_by_place : (ps : List Point) (d : Point) → length ps ≡ suc (suc count) →
      ((k : ℕ) → k < count → get_or ps k d ≡ corner_at v (place_after (length v.edges) start k)) →
      get_or ps count d ≡ meet v.plane (edge_at v (place_after (length v.edges) start count)) g →
      get_or ps (suc count) d ≡ meet v.plane g (edge_at v (place_after (length v.edges) start 0)) →
      ps ≡ corners (cut v g start count)
  cut_corners_by_place ps d s kept leaving entering = corners_by_place (cut v g start count) ps d (s ∙ sym cut_length) each
    where
      each : (k : ℕ) → k < length (cut v g start count).edges → get_or ps k d ≡ corner_at (cut v g start count) k
      each k m = ⊎_elim
          (λ a. kept k a ∙ sym (cut_corner_kept k a))
          (λ a. ⊎_elim
          (λ e. ap (λ j. get_or ps j d) e ∙ leaving ∙ sym (ap (corner_at (cut v g start count)) e ∙ cut_corner_leaving))
          (λ f. let b : k ≡ suc count = omega (arith, f, cut_length) in ap (λ j. get_or ps j d) b ∙ entering ∙ sym (ap (corner_at (cut v g start count)) b ∙ cut_corner_entering))
          (cases_eq k count))
          (cases_lt k count)

  -- so the corners of the cut are those of the run, and then the two new ones
  pub cut_corners :
      take count (rotated_list start (corners v)) ++ meet v.plane (edge_at v (place_after (length v.edges) start count)) g ∷ meet v.plane g (edge_at v (place_after (length v.edges) start 0)) ∷ []
      ≡ corners (cut v g start count)
  cut_corners =
      cut_corners_by_place (run ++ leaving ∷ entering ∷ []) leaving
      (let a = length-append run (leaving ∷ entering ∷ []) in let b = run_length in omega arith)
      (λ k m. get_or_append_left run (leaving ∷ entering ∷ []) leaving k (let b = run_length in omega arith) ∙ run_at k m)
      (get_or_at run leaving (entering ∷ []) leaving count run_length)
      (get_or-append_right run (leaving ∷ entering ∷ []) count (suc count) leaving run_length (omega arith) ∙ ap (λ j. get_or (leaving ∷ entering ∷ []) j leaving) {x = suc count - count} {y = 1} (omega arith))
    where
      run : List Point
      run = take count (rotated_list start (corners v))

      leaving : Point
      leaving = meet v.plane (edge_at v (place_after (length v.edges) start count)) g

      entering : Point
      entering = meet v.plane g (edge_at v (place_after (length v.edges) start 0))

      below : start ≤ length (corners v)
      below = let a = corners_length v in let b = h in omega arith

      run_length : length (take count (rotated_list start (corners v))) ≡ count
      run_length = length-take-le count (rotated_list start (corners v)) (let a = rotated_list_length start (corners v) below in let b = corners_length v in let d = l in omega arith)

      run_at : (k : ℕ) → k < count → get_or (take count (rotated_list start (corners v))) k leaving ≡ corner_at v (place_after (length v.edges) start k)
      run_at k m =
          let a = corners_length v in
          get_or-take count (rotated_list start (corners v)) k leaving m
          ∙ rotated_list_at start (corners v) k leaving below (omega (arith, l))
          ∙ ap (λ n. get_or (corners v) (place_after n start k) leaving) a
          ∙ corner_in_list v (place_after (length v.edges) start k) leaving (after_below (length v.edges) start k h (omega (arith, l)))

-- what holds of the edges and of the plane holds of the cut's edges
pub cut_all : (P : Plane → Type 0) (v : Winding) (g : Plane) (start count : ℕ) → All P v.edges → P g → All P (cut v g start count).edges
cut_all P v g start count a p =
    All-push P (take (suc count) (rotated start v).edges) g
    (All-take P (suc count) (rotated start v).edges (All-append P (drop start v.edges) (take start v.edges) (All-drop P start v.edges a) (All-take P start v.edges a))) p

-- ---- parts

pub cut_is_part : (v : Winding) (g : Plane) (start count : ℕ) → IsConvex v → IsFrontRun v g start count → HasCornerBehind v g → IsPartInFront (cut v g start count) v g
cut_is_part v g start count c x b = record {
  convex = cut_convex v g start count c x b;
  plane = refl;
  points = cut_region v g start count c x b;
  edges = cut_all (Contains (g ∷ v.edges)) v g start count (own_edges_later v g) (Contains-first g v.edges);
}

-- a winding that is wholly in front is its own part
pub whole_is_part : (v : Winding) (g : Plane) → IsConvex v → IsWhollyInFront v g → IsPartInFront v v g
whole_is_part v g c a = record { convex = c; plane = refl; points = λ p. ((λ r. (r, a p r)), (λ s. s.0)); edges = own_edges_later v g }

-- a part is not empty: where no point is in front, there is none
pub part_has_front : (w v : Winding) (g : Plane) → IsPartInFront w v g → HasSomeInFront v g
part_has_front w v g x = let s = (x.points (middle w)).0 (middle_in_region w x.convex) in (middle w, s.0, s.1)

-- The parts on both sides of a plane make up the winding: each point is in the one, in the other, or on the plane.
pub parts_make_whole : (v : Winding) (g : Plane) (in_front behind : Winding) → IsPartInFront in_front v g → IsPartInFront behind v (flipped g) → IsParted v g in_front behind
parts_make_whole v g in_front behind x y = record {
  part_in_front = x;
  part_behind = y;
  whole = λ p r. by_sign (value g p)
      (λ l. inr (inl ((y.points p).1 (r, let e = value_flipped g p in omega (arith, linear)))))
      (λ o. inr (inr o))
      (λ l. inl ((x.points p).1 (r, l)));
}

-- a plane with points on both sides parts a winding
pub parted : (v : Winding) (g : Plane) → IsConvex v → HasSomeInFront v g → HasSomeInFront v (flipped g) → (in_front : Winding) × (behind : Winding) × IsParted v g in_front behind
parted v g c x y =
    let r = front_run v g front behind in
    let s = front_run v (flipped g) other_front other_behind in
    let w = cut v g r.0 r.1 in
    let u = cut v (flipped g) s.0 s.1 in
    (w, u, parts_make_whole v g w u (cut_is_part v g r.0 r.1 c r.2 behind) (cut_is_part v (flipped g) s.0 s.1 c s.2 other_behind))
  where
    front : HasCornerInFront v g
    front = (some_in_front v g c).0 x

    other_front : HasCornerInFront v (flipped g)
    other_front = (some_in_front v (flipped g) c).0 y

    behind : HasCornerBehind v g
    behind = let f = other_front in (f.0, f.1, let e = value_flipped g (corner_at v f.0) in let t = f.2 in omega (arith, linear))

    other_behind : HasCornerBehind v (flipped g)
    other_behind = let f = front in (f.0, f.1, let e = value_flipped g (corner_at v f.0) in let t = f.2 in omega (arith, linear))

-- ---- the part in front of several planes, cut one after another

pub all_at_first : (v : Winding) → IsConvex v → IsPartWithin v v []
all_at_first v c = record { convex = c; plane = refl; points = λ p. ((λ r. (r, All-nil (λ g. IsInFront g p))), (λ s. s.0)); edges = own_edges v }

pub within_one_more : (u w v : Winding) (gs : List Plane) (g : Plane) → IsPartWithin w v gs → IsPartInFront u w g → IsPartWithin u v (gs ++ g ∷ [])
within_one_more u w v gs g x y = record {
  convex = y.convex;
  plane = y.plane ∙ x.plane;
  points = λ p. (inner p, outer p);
  edges = edges_of_part u w g ((gs ++ g ∷ []) ++ v.edges) y (Contains-append_left (gs ++ g ∷ []) v.edges g (Contains-push gs g))
      (edges_within w v gs ((gs ++ g ∷ []) ++ v.edges) x
      (All-first_part (Contains ((gs ++ g ∷ []) ++ v.edges)) gs (g ∷ []) (first_among (gs ++ g ∷ []) v.edges))
      (second_among (gs ++ g ∷ []) v.edges v.edges (own_edges v)));
}
  where
    inner : (p : Point) → IsInRegion u p → IsInRegion v p × All (λ g. IsInFront g p) (gs ++ g ∷ [])
    inner p r =
        let s = (y.points p).0 r in
        let t = (x.points p).0 s.0 in
        (t.0, All-push (λ g. IsInFront g p) gs g t.1 s.1)

    outer : (p : Point) → IsInRegion v p × All (λ g. IsInFront g p) (gs ++ g ∷ []) → IsInRegion u p
    outer p (r, a) =
        (y.points p).1 ((x.points p).1 (r, at_first p a), at_end p a)
      where
        at_first : (p : Point) → All (λ g. IsInFront g p) (gs ++ g ∷ []) → All (λ g. IsInFront g p) gs
        at_first p a = All-from_get_or (λ g. IsInFront g p) gs g (λ i l.
            subst (λ e. IsInFront e p) (get_or_append_left gs (g ∷ []) g i l) (a i g (let e = length-append gs (g ∷ []) in omega arith)))

        at_end : (p : Point) → All (λ g. IsInFront g p) (gs ++ g ∷ []) → IsInFront g p
        at_end p a = subst (λ e. IsInFront e p) (get_or_at gs g [] g (length gs) refl) (a (length gs) g (let e = length-append gs (g ∷ []) in omega arith))
