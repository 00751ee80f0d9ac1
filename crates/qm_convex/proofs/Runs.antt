-- The corners in front of a plane are one run: the border comes to the plane's front once, and leaves it once.
use Rattle.std.proofs.Common.{◌≡◌, ℕ, zero, suc, ◌-◌, ◌<◌, ◌≤◌, pos, ◌≤ℤ◌, length, ap, sym, ◌∙◌, arith, subst, ⊎_elim}
use Rattle.std.proofs.lemmas.Bool.{cases_lt}
use Rattle.std.proofs.lemmas.List.Elements.{All-from_get_or}
use Rattle.qm_space.specs.Plane.{Plane, value, IsInFront}
use Rattle.qm_numbers.proofs.IntegerProducts.{linear}
use Rattle.qm_numbers.proofs.Signs.{by_least}
use Rattle.qm_convex.specs.Winding.{Winding, next_place, edge_at, corner_at, IsConvex, IsInRegion}
use Rattle.qm_convex.specs.Rotation.{place_after}
use Rattle.qm_convex.specs.Sides.{HasCornerInFront, HasCornerBehind}
use Rattle.qm_convex.specs.inner.FrontRun.{IsFrontRun, EntersFrontAt, LeavesFrontAt, cut}
use Rattle.qm_convex.proofs.Places.{next_inner, next_last, next_below, next_injective, after_below, after_none, after_next, after_injective, steps_to}
use Rattle.qm_convex.proofs.Corners.{corner_on_plane, corner_on_edge}
use Rattle.qm_convex.proofs.Cutting.{cut_length, cut_edge_kept, cut_edge_new, cut_region, front_run}

-- no corner off the run is in front: it would be a point of the cut, but it lies on the border
pub not_front_elsewhere : (v : Winding) (g : Plane) (start count : ℕ) → IsConvex v → IsFrontRun v g start count → HasCornerBehind v g →
    (j : ℕ) → count ≤ j → j < length v.edges → value g (corner_at v (place_after (length v.edges) start j)) ≤ℤ pos 0
not_front_elsewhere v g start count c x b j h l = by_least (pos 0) (value g (corner_at v here)) (λ f. absurd (in_front f)) (λ m. m)
  where
    n : ℕ
    n = length v.edges

    here : ℕ
    here = place_after (length v.edges) start j

    start_below : start ≤ length v.edges
    start_below = let a = x.in_range in omega arith

    here_below : here < length v.edges
    here_below = after_below (length v.edges) start j start_below l

    ended_here : j ≡ count → value g (corner_at v here) ≤ℤ pos 0
    ended_here e = subst (λ k. value g (corner_at v (place_after (length v.edges) start k)) ≤ℤ pos 0) (sym e) x.ended

    began_here : suc j ≡ length v.edges → value g (corner_at v here) ≤ℤ pos 0
    began_here e = subst (λ k. value g (corner_at v (place_after (length v.edges) start k)) ≤ℤ pos 0) (let a = e in omega arith) x.began

    in_cut : count < j → suc j < n → IsInFront g (corner_at v here) → IsInRegion (cut v g start count) (corner_at v here)
    in_cut apart inner f = record { weight = c.weight here here_below; on = corner_on_plane v here; inside = All-from_get_or (λ e. IsInFront e (corner_at v here)) (cut v g start count).edges v.plane each }
      where
        kept : (k : ℕ) → k ≤ count → IsInFront (edge_at (cut v g start count) k) (corner_at v here)
        kept k m = subst (λ e. IsInFront e (corner_at v here)) (sym (cut_edge_kept v g start count start_below x.not_all k m))
            (c.inside here (place_after n start k) here_below (after_below n start k start_below (let a = x.not_all in omega arith))
            (λ e. let a = after_injective n start k j start_below (let b = x.not_all in omega arith) l e in omega arith)
            (λ e. let a = after_injective n start k (suc j) start_below (let b = x.not_all in omega arith) inner (e ∙ sym (after_next n start j start_below l) ∙ ap (place_after n start) (next_inner n j inner)) in omega arith))

        each : (k : ℕ) → k < length (cut v g start count).edges → IsInFront (edge_at (cut v g start count) k) (corner_at v here)
        each k m = ⊎_elim
            (λ a. kept k (omega arith))
            (λ a. let d : k ≡ suc count = (let e = cut_length v g start count start_below x.not_all in omega arith) in
            subst (λ e. IsInFront e (corner_at v here)) (sym (ap (edge_at (cut v g start count)) d ∙ cut_edge_new v g start count start_below x.not_all)) f)
            (cases_lt k (suc count))

    in_front : IsInFront g (corner_at v here) → ⊥
    in_front f = ⊎_elim
        (λ apart. ⊎_elim
        (λ inner.
        let e = corner_on_edge v here in
        let r = (cut_region v g start count c x b (corner_at v here)).0 (in_cut apart inner f) in
        let s = r.0.inside here v.plane here_below in
        omega (arith, linear))
        (λ last. let e = began_here (omega arith) in omega (arith, linear))
        (cases_lt (suc j) n))
        (λ same. let e = ended_here (omega arith) in omega (arith, linear))
        (cases_lt count j)

-- a place whose corner is in front is one of the run's
in_run : (v : Winding) (g : Plane) (start count : ℕ) → IsConvex v → IsFrontRun v g start count → HasCornerBehind v g →
    (i : ℕ) → i < length v.edges → IsInFront g (corner_at v i) → (j : ℕ) × (j < count) × (place_after (length v.edges) start j ≡ i)
in_run v g start count c x b i h f =
    let s = steps_to (length v.edges) start i x.in_range h in (
      s.0,
      ⊎_elim
          (λ l. l)
          (λ l. let e = subst (λ k. value g (corner_at v k) ≤ℤ pos 0) s.2 (not_front_elsewhere v g start count c x b s.0 l s.1) in absurd (omega (arith, linear)))
          (cases_lt s.0 count),
      s.2,
    )

-- where the border comes to the front, the run starts
entering_is_start : (v : Winding) (g : Plane) (start count : ℕ) → IsConvex v → IsFrontRun v g start count → HasCornerBehind v g →
    (i : ℕ) → i < length v.edges → EntersFrontAt v g i → next_place (length v.edges) i ≡ start
entering_is_start v g start count c x b i h e = from_run (in_run v g start count c x b (next_place n i) (next_below n i h) e.1)
  where
    n : ℕ
    n = length v.edges

    from_run : (j : ℕ) × (j < count) × (place_after n start j ≡ next_place n i) → next_place n i ≡ start
    from_run (zero, l, s) = sym s ∙ after_none n start x.in_range
    from_run (suc j, l, s) =
        let not_all = x.not_all in
        let in_range = x.in_range in
        let inner = next_inner n j (omega arith) in
        let same : place_after n start j ≡ i = next_injective n (place_after n start j) i (after_below n start j (omega arith) (omega arith)) h
        (sym (after_next n start j (omega arith) (omega arith)) ∙ ap (place_after n start) inner ∙ s) in
        let f = subst (λ k. IsInFront g (corner_at v k)) same (x.front j (omega arith)) in
        let m = e.0 in
        absurd (omega (arith, linear))

-- where it leaves the front, the run has ended
leaving_is_end : (v : Winding) (g : Plane) (start count : ℕ) → IsConvex v → IsFrontRun v g start count → HasCornerBehind v g →
    (i : ℕ) → i < length v.edges → LeavesFrontAt v g i → next_place (length v.edges) i ≡ place_after (length v.edges) start count
leaving_is_end v g start count c x b i h e = from_run (in_run v g start count c x b i h e.0)
  where
    n : ℕ
    n = length v.edges

    from_run : (j : ℕ) × (j < count) × (place_after n start j ≡ i) → next_place n i ≡ place_after n start count
    from_run (j, l, s) =
        let not_all = x.not_all in
        let in_range = x.in_range in
        let inner = next_inner n j (omega arith) in
        let step : place_after n start (suc j) ≡ next_place n i = ap (place_after n start) (sym inner) ∙ after_next n start j (omega arith) (omega arith) ∙ ap (next_place n) s in
        ⊎_elim
        (λ m. let f = subst (λ k. IsInFront g (corner_at v k)) step (x.front (suc j) m) in let k = e.1 in absurd (omega (arith, linear)))
        (λ m. sym step ∙ ap (place_after n start) (omega arith))
        (cases_lt (suc j) count)

-- So the two places determine the run: it starts where the border comes to the front, and has as many corners as there
-- are steps from there to where the border has left it.
pub run_between : (v : Winding) (g : Plane) (i k count : ℕ) → IsConvex v → HasCornerBehind v g →
    i < length v.edges → EntersFrontAt v g i → k < length v.edges → LeavesFrontAt v g k →
    count < length v.edges → place_after (length v.edges) (next_place (length v.edges) i) count ≡ next_place (length v.edges) k →
    IsFrontRun v g (next_place (length v.edges) i) count
run_between v g i k count c b h e l f m s = from_some (front_run v g (next_place n i, next_below n i h, e.1) b)
  where
    n : ℕ
    n = length v.edges

    from_some : (start : ℕ) × (length_of_run : ℕ) × IsFrontRun v g start length_of_run → IsFrontRun v g (next_place n i) count
    from_some (start, number, x) =
        let in_range = x.in_range in
        let first = entering_is_start v g start number c x b i h e in
        let last = leaving_is_end v g start number c x b k l f in
        let same : count ≡ number = after_injective n start count number (omega arith) m x.not_all (ap (λ j. place_after n j count) (sym first) ∙ s ∙ last) in
        subst (λ j. IsFrontRun v g j count) (sym first) (subst (λ j. IsFrontRun v g start j) (sym same) x)

-- with corners in front and behind, there are two such places
pub enters_somewhere : (v : Winding) (g : Plane) → HasCornerInFront v g → HasCornerBehind v g → (i : ℕ) × (i < length v.edges) × EntersFrontAt v g i
enters_somewhere v g f b = from_run (front_run v g f b)
  where
    n : ℕ
    n = length v.edges

    from_run : (start : ℕ) × (count : ℕ) × IsFrontRun v g start count → (i : ℕ) × (i < n) × EntersFrontAt v g i
    from_run (start, count, x) =
        let in_range = x.in_range in
        let before = place_after n start (n - 1) in
        let step : next_place n before ≡ start = sym (after_next n start (n - 1) (omega arith) (omega arith)) ∙ ap (place_after n start) (next_last n (n - 1) (omega arith)) ∙ after_none n start in_range in (
          before,
          after_below n start (n - 1) (omega arith) (omega arith),
          (x.began, subst (λ k. IsInFront g (corner_at v k)) (after_none n start in_range ∙ sym step) (x.front 0 x.some)),
        )

pub leaves_somewhere : (v : Winding) (g : Plane) → HasCornerInFront v g → HasCornerBehind v g → (i : ℕ) × (i < length v.edges) × LeavesFrontAt v g i
leaves_somewhere v g f b = from_run (front_run v g f b)
  where
    n : ℕ
    n = length v.edges

    from_run : (start : ℕ) × (count : ℕ) × IsFrontRun v g start count → (i : ℕ) × (i < n) × LeavesFrontAt v g i
    from_run (start, zero, x) = absurd (let a = x.some in omega arith)
    from_run (start, suc count, x) =
        let in_range = x.in_range in
        let not_all = x.not_all in
        let last = place_after n start count in (
          last,
          after_below n start count (omega arith) (omega arith),
          (x.front count (omega arith), subst (λ k. value g (corner_at v k) ≤ℤ pos 0) (ap (place_after n start) (sym (next_inner n count not_all)) ∙ after_next n start count (omega arith) (omega arith)) x.ended),
        )
