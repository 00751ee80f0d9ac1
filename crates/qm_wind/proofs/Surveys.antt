-- Surveys of a winding's corners, corner by corner.
use Rattle.std.proofs.Common.{◌≡◌, ℕ, zero, suc, ◌+◌, ◌-◌, ◌<◌, ◌≤◌, ℤ, pos, ◌<ℤ◌, ◌≤ℤ◌, Bool, true, false, not, ◌&&◌, ◌||◌, cond, ◌⊎◌, inl, inr, ⊎_elim, length, ap, refl, sym, ◌∙◌, subst, arith, int_cmp, Less, Equal, Greater, Ordering}
use Rattle.std.specs.Bool.{MatchBool}
use Rattle.std.specs.Ordering.{is_gt, is_lt}
use Rattle.std.proofs.lemmas.Bool.{cases_eq}
use Rattle.qm_space.specs.Point.{Point}
use Rattle.qm_space.specs.Plane.{Plane, value, flipped, IsInFront, IsNotInFront}
use Rattle.qm_numbers.proofs.IntegerProducts.{linear}
use Rattle.qm_numbers.proofs.Signs.{by_sign, compares_less, compares_equal, compares_greater}
use Rattle.qm_space.proofs.Planes.{value_flipped}
use Rattle.qm_convex.specs.Winding.{Winding, next_place, corner_at}
use Rattle.qm_convex.specs.Sides.{HasCornerInFront, HasNoCornerInFront}
use Rattle.qm_convex.specs.inner.FrontRun.{EntersFrontAt, LeavesFrontAt}
use Rattle.qm_convex.proofs.Places.{next_inner, next_last}
use Rattle.qm_wind.specs.declared.survey.Run.{Run}
use Rattle.qm_wind.specs.declared.survey.Survey.{Survey}
use Rattle.qm_wind.specs.inner.Surveyed.{noted, begun, surveyed, IsStart, IsEnd, IsRun, IsRunBelow, IsSurvey, IsSurveyBelow}

-- ---- what a comparison tells

-- whether a point is in front of a plane
abbrev pub IsTold : Bool → Plane → Point → Type 0
IsTold b g p = MatchBool b (IsInFront g p) (IsNotInFront g p)

-- a comparison with 0, in its three cases
by_comparison : {P : Type 0} (z : ℤ) (o : Ordering) → o ≡ int_cmp z (pos 0) →
    (z <ℤ pos 0 → o ≡ Less → P) → (z ≡ pos 0 → o ≡ Equal → P) → (pos 0 <ℤ z → o ≡ Greater → P) → P
by_comparison z o e less equal greater = by_sign z
    (λ h. less h (e ∙ compares_less z (pos 0) h))
    (λ h. equal h (e ∙ compares_equal z (pos 0) h))
    (λ h. greater h (e ∙ compares_greater z (pos 0) h))

told_front : (g : Plane) (p : Point) (o : Ordering) → o ≡ int_cmp (value g p) (pos 0) → IsTold (is_gt o) g p
told_front g p o e = by_comparison (value g p) o e
    (λ h k. subst (λ t. IsTold (is_gt t) g p) (sym k) (omega (arith, linear)))
    (λ h k. subst (λ t. IsTold (is_gt t) g p) (sym k) (omega (arith, linear)))
    (λ h k. subst (λ t. IsTold (is_gt t) g p) (sym k) h)

told_back : (g : Plane) (p : Point) (o : Ordering) → o ≡ int_cmp (value g p) (pos 0) → IsTold (is_lt o) (flipped g) p
told_back g p o e =
    let f = value_flipped g p in
    by_comparison (value g p) o e
    (λ h k. subst (λ t. IsTold (is_lt t) (flipped g) p) (sym k) (omega (arith, linear)))
    (λ h k. subst (λ t. IsTold (is_lt t) (flipped g) p) (sym k) (omega (arith, linear)))
    (λ h k. subst (λ t. IsTold (is_lt t) (flipped g) p) (sym k) (omega (arith, linear)))

-- ---- one side

one_more : {P : ℕ → Type 0} (n : ℕ) → ((i : ℕ) → i < n → P i) → P n → (i : ℕ) → i < suc n → P i
one_more {P} n a p i h = ⊎_elim (λ e. subst P (sym e) p) (λ f. a i (omega (arith, f))) (cases_eq i n)

some_more : (v : Winding) (g : Plane) (n : ℕ) (some is : Bool) → n < length v.edges → IsTold is g (corner_at v n) →
    MatchBool some (HasCornerInFront v g) ((i : ℕ) → i < n → value g (corner_at v i) ≤ℤ pos 0) →
    MatchBool (some || is) (HasCornerInFront v g) ((i : ℕ) → i < suc n → value g (corner_at v i) ≤ℤ pos 0)
some_more v g n true is h t m = m
some_more v g n false true h t m = (n, h, t)
some_more v g n false false h t m = one_more n m t

-- the first corner, noted again, adds nothing
some_again : (v : Winding) (g : Plane) (some is : Bool) → 0 < length v.edges → IsTold is g (corner_at v 0) →
    MatchBool some (HasCornerInFront v g) (HasNoCornerInFront v g) → MatchBool (some || is) (HasCornerInFront v g) (HasNoCornerInFront v g)
some_again v g true is h t m = m
some_again v g false true h t m = absurd (let k = m 0 h in omega (arith, linear))
some_again v g false false h t m = m

-- what the edge from the place m to the next one adds: it is a start, or the start stays and the border does not enter there
module _ (v : Winding) (g : Plane) (m place old : ℕ) (h : m < length v.edges) (next : next_place (length v.edges) m ≡ place) where
  at_place : value g (corner_at v (next_place (length v.edges) m)) ≡ value g (corner_at v place)
  at_place = ap (λ k. value g (corner_at v k)) next

  start_step : (was is : Bool) → IsTold was g (corner_at v m) → IsTold is g (corner_at v place) →
      IsStart v g (cond (is && not was) place old) ⊎ ((cond (is && not was) place old ≡ old) × (EntersFrontAt v g m → ⊥))
  start_step was false s t = inr (refl, (λ e. let a = at_place in let f = e.1 in omega (arith, linear)))
  start_step true true s t = inr (refl, (λ e. let f = e.0 in omega (arith, linear)))
  start_step false true s t = inl (record { before = m; in_range = h; next = next; enters = (s, let a = at_place in omega (arith, linear)) })

  end_step : (was is : Bool) → IsTold was g (corner_at v m) → IsTold is g (corner_at v place) →
      IsEnd v g (cond (was && not is) place old) ⊎ ((cond (was && not is) place old ≡ old) × (LeavesFrontAt v g m → ⊥))
  end_step false is s t = inr (refl, (λ e. let f = e.0 in omega (arith, linear)))
  end_step true true s t = inr (refl, (λ e. let a = at_place in let f = e.1 in omega (arith, linear)))
  end_step true false s t = inl (record { before = m; in_range = h; next = next; leaves = (s, let a = at_place in omega (arith, linear)) })

-- the first corner alone
run_one : (v : Winding) (g : Plane) (is : Bool) → 0 < length v.edges → IsTold is g (corner_at v 0) → IsRunBelow v g 1 (record { some = is; start = 0; end = 0 })
run_one v g is h t = record {
  some = some_more v g 0 false is h t (λ i l. absurd (omega arith));
  start = inr (λ i l x. absurd (omega arith));
  end = inr (λ i l x. absurd (omega arith));
}

-- one corner more
run_more : (v : Winding) (g : Plane) (m : ℕ) (run : Run) (was is : Bool) → suc m < length v.edges →
    IsTold was g (corner_at v m) → IsTold is g (corner_at v (suc m)) → IsRunBelow v g (suc m) run → IsRunBelow v g (suc (suc m)) (noted run was is (suc m))
run_more v g m run was is h s t x = record {
  some = some_more v g (suc m) run.some is h t x.some;
  start = ⊎_elim
      inl
      (λ u. ⊎_elim (λ a. inl (subst (IsStart v g) (sym u.0) a)) (λ a. inr (λ i l. one_more m (λ j k. a j (omega arith)) u.1 i (omega arith))) x.start)
      (start_step v g m (suc m) run.start (omega arith) (next_inner (length v.edges) m h) was is s t);
  end = ⊎_elim
      inl
      (λ u. ⊎_elim (λ a. inl (subst (IsEnd v g) (sym u.0) a)) (λ a. inr (λ i l. one_more m (λ j k. a j (omega arith)) u.1 i (omega arith))) x.end)
      (end_step v g m (suc m) run.end (omega arith) (next_inner (length v.edges) m h) was is s t);
}

-- the edge from the last corner to the first completes it
run_all : (v : Winding) (g : Plane) (m : ℕ) (run : Run) (was is : Bool) → suc m ≡ length v.edges →
    IsTold was g (corner_at v m) → IsTold is g (corner_at v 0) → IsRunBelow v g (suc m) run → IsRun v g (noted run was is 0)
run_all v g m run was is n s t x = record {
  some = some_again v g run.some is (omega (arith, n)) t (subst (λ k. MatchBool run.some (HasCornerInFront v g) ((i : ℕ) → i < k → value g (corner_at v i) ≤ℤ pos 0)) n x.some);
  start = ⊎_elim
      inl
      (λ u. ⊎_elim (λ a. inl (subst (IsStart v g) (sym u.0) a)) (λ a. inr (λ i l. one_more m (λ j k. a j (omega arith)) u.1 i (omega arith))) x.start)
      (start_step v g m 0 run.start (omega arith) (next_last (length v.edges) m n) was is s t);
  end = ⊎_elim
      inl
      (λ u. ⊎_elim (λ a. inl (subst (IsEnd v g) (sym u.0) a)) (λ a. inr (λ i l. one_more m (λ j k. a j (omega arith)) u.1 i (omega arith))) x.end)
      (end_step v g m 0 run.end (omega arith) (next_last (length v.edges) m n) was is s t);
}

-- ---- both sides, by places counted from 1 as a loop counts them

-- the side of a corner
abbrev pub IsSideAt : Ordering → Winding → Plane → ℕ → Type 0
IsSideAt o v g i = o ≡ int_cmp (value g (corner_at v i)) (pos 0)

pub survey_start : (v : Winding) (g : Plane) (first : Ordering) (s : Survey) → 0 < length v.edges → IsSideAt first v g 0 →
    s ≡ begun first →
    IsSurveyBelow v g 1 s × IsSideAt first v g 0
survey_start v g first s h e is =
    (subst (IsSurveyBelow v g 1) (sym is) (record { front = run_one v g (is_gt first) h (told_front g (corner_at v 0) first e); back = run_one v (flipped g) (is_lt first) h (told_back g (corner_at v 0) first e) }), e)

same_side : (v : Winding) (g : Plane) (o : Ordering) (i j : ℕ) → i ≡ j → IsSideAt o v g i → IsSideAt o v g j
same_side v g o i j e x = subst (IsSideAt o v g) e x

pub survey_step : (v : Winding) (g : Plane) (i : ℕ) (s t : Survey) (before here : Ordering) → 1 ≤ i → i < length v.edges → IsSideAt here v g i → t ≡ surveyed s before here i →
    IsSurveyBelow v g i s × IsSideAt before v g (i - 1) → IsSurveyBelow v g (i + 1) t × IsSideAt here v g (i + 1 - 1)
survey_step v g zero s t before here l h e is x = absurd (omega arith)
survey_step v g (suc m) s t before here l h e is x =
    let was : IsSideAt before v g m = same_side v g before (suc m - 1) m (omega arith) x.1 in (
      subst (IsSurveyBelow v g (suc m + 1)) (sym is) (subst (λ k. IsSurveyBelow v g k (surveyed s before here (suc m))) {x = suc (suc m)} {y = suc m + 1} (omega arith) (record {
        front = run_more v g m s.front (is_gt before) (is_gt here) h (told_front g (corner_at v m) before was) (told_front g (corner_at v (suc m)) here e) x.0.front;
        back = run_more v (flipped g) m s.back (is_lt before) (is_lt here) h (told_back g (corner_at v m) before was) (told_back g (corner_at v (suc m)) here e) x.0.back;
      })),
      same_side v g here (suc m) (suc m + 1 - 1) (omega arith) e,
    )

pub survey_end : (v : Winding) (g : Plane) (i : ℕ) (s t : Survey) (before first : Ordering) → 1 ≤ i → i ≡ length v.edges → IsSideAt first v g 0 → t ≡ surveyed s before first 0 →
    IsSurveyBelow v g i s × IsSideAt before v g (i - 1) → IsSurvey v g t
survey_end v g zero s t before first l h e is x = absurd (omega arith)
survey_end v g (suc m) s t before first l h e is x =
    let was : IsSideAt before v g m = same_side v g before (suc m - 1) m (omega arith) x.1 in
    subst (IsSurvey v g) (sym is) (record {
      front = run_all v g m s.front (is_gt before) (is_gt first) h (told_front g (corner_at v m) before was) (told_front g (corner_at v 0) first e) x.0.front;
      back = run_all v (flipped g) m s.back (is_lt before) (is_lt first) h (told_back g (corner_at v m) before was) (told_back g (corner_at v 0) first e) x.0.back;
    })
