use Rattle.std.proofs.Common.{◌≡◌, ℕ, ◌+◌, ◌<◌, ◌^◌, List, [], ◌∷◌, ◌++◌, length, refl, sym, subst, ap, ◌∙◌, arith, true, length-append, slice_get, Option, Some, None, IsTrue, ⊎_elim}
use Rattle.std.specs.Option.{MatchOption}
use Rattle.std.specs.declared.cmp.Ordering.{Ordering}
use Rattle.std.specs.declared.cmp.Ordering.TheVariants.{Less, Equal, Greater}
use Rattle.std.specs.BTreeMap.{BTreeMap, get, Updates, IsUnchanged}
use Rattle.std.specs.Ordering.{ordering_then, is_eq}
use Rattle.std.proofs.lemmas.Map.Lookups.{exact_signed}
use Rattle.qm_space.specs.Plane.{Plane}
use Rattle.qm_space.specs.Reduced.{leads_positive, IsReduced}
use Rattle.qm_space.proofs.ReducedPlanes.{same_plane}
use Rattle.qm_space.specs.Book.{AreBookPlanes}
use Rattle.qm_space.specs.Entered.{plane_cmp}
use Rattle.qm_geom.specs.inner.Numbered.{IsNumbered}
use Rattle.qm_lists.proofs.Places.{slice_get-push_old, slice_get-push_last, slice_get-push_cases}
use Rattle.qm_lists.proofs.Cases.{by_cases}

-- ---- the order of planes

equal_parts : (o p : Ordering) → ordering_then o p ≡ Equal → (o ≡ Equal) × (p ≡ Equal)
equal_parts Less p h = cc
equal_parts Equal p h = (refl, h)
equal_parts Greater p h = cc

is_eq-Equal : (o : Ordering) → is_eq o ≡ true → o ≡ Equal
is_eq-Equal Less h = cc
is_eq-Equal Equal h = refl
is_eq-Equal Greater h = cc

-- the order tells all planes apart
pub same_from_is_eq : (g h : Plane) → is_eq (plane_cmp g h) ≡ true → g ≡ h
same_from_is_eq g h e =
    let a = equal_parts _ _ (is_eq-Equal _ e) in
    let b = equal_parts _ _ a.1 in
    let c = equal_parts _ _ b.1 in
    same_plane g h (exact_signed _ _ a.0) (exact_signed _ _ b.0) (exact_signed _ _ c.0) (exact_signed _ _ c.1)

-- ---- the numbers of a book's planes

pub IsNumbered-same : (xs ys : List Plane) (m n : BTreeMap Plane ℕ) → ys ≡ xs → IsUnchanged m n → IsNumbered xs m → IsNumbered ys n
IsNumbered-same xs ys m n e u b =
    rw e record {
      reduced = b.reduced;
      leads = b.leads;
      placed = λ k h at. rw u (b.placed k h at);
      found = λ k h at. b.found k h (rw u at at);
      short = b.short;
    }

pub IsNumbered-gained : (xs : List Plane) (x : Plane) (m n : BTreeMap Plane ℕ) → IsNumbered xs m → IsReduced x → IsTrue (leads_positive x) → get plane_cmp m x ≡ None → Updates plane_cmp m n x (Some (length xs)) → length xs + 1 < 2 ^ 32 → IsNumbered (xs ++ x ∷ []) n
IsNumbered-gained xs x m n b low leads absent u room = record {
  reduced = λ k h at. ⊎_elim (λ e. b.reduced k h e) (λ e. subst IsReduced e.1 low) (slice_get-push_cases xs x h k at);
  leads = λ k h at. ⊎_elim (λ e. b.leads k h e) (λ e. let P : Plane → Type 0 = λ g. IsTrue (leads_positive g) in subst P e.1 leads) (slice_get-push_cases xs x h k at);
  placed = λ k h at. ⊎_elim (λ e. stays h k (b.placed k h e)) (λ e. let P : Plane → Type 0 = λ g. get plane_cmp n g ≡ Some k in subst P e.1 (u.1 ∙ ap Some (sym e.0))) (slice_get-push_cases xs x h k at);
  found = λ k h at. by_cases (is_eq (plane_cmp x h)) (λ tied. here h k at tied) (λ apart. slice_get-push_old xs x h k (b.found k h (sym (u.2 h apart) ∙ at)));
  short = omega (arith, length-append xs (x ∷ []));
}
  where
    stays : (h : Plane) (k : ℕ) → get plane_cmp m h ≡ Some k → get plane_cmp n h ≡ Some k
    stays h k at =
        by_cases (is_eq (plane_cmp x h)) (λ tied. let e : x ≡ h = same_from_is_eq x h tied in let f : get plane_cmp m h ≡ None = subst (λ (g : Plane). get plane_cmp m g ≡ None) e absent in cc) (λ apart. u.2 h apart ∙ at)

    here : (h : Plane) (k : ℕ) → get plane_cmp n h ≡ Some k → is_eq (plane_cmp x h) ≡ true → slice_get (xs ++ x ∷ []) k ≡ Some h
    here h k at tied =
        let e : x ≡ h = same_from_is_eq x h tied in
        let f : get plane_cmp n h ≡ Some (length xs) = subst (λ (g : Plane). get plane_cmp n g ≡ Some (length xs)) e u.1 in
        let same : length xs ≡ k = cc in
        subst (λ (j : ℕ). slice_get (xs ++ x ∷ []) j ≡ Some h) same (slice_get-push_last xs x ∙ ap Some e)

pub AreBookPlanes-from : (xs : List Plane) (m : BTreeMap Plane ℕ) → IsNumbered xs m → AreBookPlanes xs
AreBookPlanes-from xs m b = record {
  reduced = b.reduced;
  leads = b.leads;
  distinct = λ j k h at_j at_k. let e : Some j ≡ Some k = sym (b.placed j h at_j) ∙ b.placed k h at_k in cc;
  short = b.short;
}

-- a plane that has no number is at no place
pub absent_from : (xs : List Plane) (m : BTreeMap Plane ℕ) (x : Plane) → IsNumbered xs m → get plane_cmp m x ≡ None → (k : ℕ) → slice_get xs k ≡ Some x → ⊥
absent_from xs m x b none k at = let e : get plane_cmp m x ≡ Some k = b.placed k x at in cc

-- so what is found of a plane is its number, or that it is at no place
pub number_found : (xs : List Plane) (m : BTreeMap Plane ℕ) (x : Plane) (found : Option ℕ) → IsNumbered xs m → found ≡ get plane_cmp m x →
    MatchOption found ((n : ℕ) → slice_get xs n ≡ Some x → ⊥) (λ n. slice_get xs n ≡ Some x)
number_found xs m x None b is = absent_from xs m x b (sym is)
number_found xs m x (Some n) b is = b.found n x (sym is)
