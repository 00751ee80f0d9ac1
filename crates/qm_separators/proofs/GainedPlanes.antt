-- Lists that gain planes, one call after another.
use Rattle.std.proofs.Common.{◌≡◌, ℕ, suc, List, [], ◌∷◌, ◌++◌, Contains, slice_get, Some, ◌∙◌, sym, subst, arith, ◌⊎◌, inl, inr, ⊎_elim, ◌↔◌}
use Rattle.std.proofs.lemmas.Bool.{cases_eq}
use Rattle.std.proofs.lemmas.List.Elements.{Contains-append_left, Contains-append_right, Contains-append_cases}
use Rattle.qm_lists.proofs.Elements.{Contains-at, Contains-first, Contains-cons_cases}
use Rattle.qm_lists.proofs.Places.{slice_get-push_cases}
use Rattle.qm_space.specs.Book.{AreDistinct}
use Rattle.qm_space.specs.Plane.{Plane}
use Rattle.qm_separators.specs.Gains.{Gains, HasExactly}
use Rattle.qm_separators.proofs.ListedPlanes.{no_element}
use Rattle.qm_separators.specs.inner.Below.{HasBelow}

pub gains_none : (Has : Plane → Type 0) (old : List Plane) → ((h : Plane) → Has h → ⊥) → Gains Has old old
gains_none Has old none = record { members = λ h. (inl, (λ e. ⊎_elim (λ c. c) (λ has. absurd (none h has)) e)); once = λ distinct. distinct }

-- what is there already need not be added
pub gains_there : (Has : Plane → Type 0) (old : List Plane) → ((h : Plane) → Has h → Contains old h) → Gains Has old old
gains_there Has old there = record { members = λ h. (inl, (λ e. ⊎_elim (λ c. c) (λ has. there h has) e)); once = λ distinct. distinct }

-- what is not there may be added
distinct_yet : (old : List Plane) (g : Plane) → (Contains old g → ⊥) → AreDistinct old → AreDistinct (old ++ g ∷ [])
distinct_yet old g new distinct m n h at_m at_n =
    let place = slice_get-push_cases old g h in
    let not_both : (k : ℕ) → slice_get old k ≡ Some h → g ≡ h → ⊥ = λ k at same. new (subst (Contains old) (sym same) (Contains-at old k h at)) in
    elim (place m at_m) [
      | inl first ↦ elim (place n at_n) [
        | inl second ↦ distinct m n h first second
        | inr last ↦ absurd (not_both m first last.1)
      ]
      | inr last ↦ elim (place n at_n) [
        | inl second ↦ absurd (not_both n second last.1)
        | inr again ↦ last.0 ∙ sym again.0
      ]
    ]

pub gains_one : (old : List Plane) (g : Plane) → (Contains old g → ⊥) → Gains (λ h. h ≡ g) old (old ++ g ∷ [])
gains_one old g new = record {
  members = λ h. (
    (λ c. ⊎_elim inl (λ last. ⊎_elim (λ same. inr (sym same)) (λ none. absurd (no_element h none)) (Contains-cons_cases g h [] last)) (Contains-append_cases old (g ∷ []) h c)),
    (λ e. ⊎_elim (λ c. Contains-append_left old (g ∷ []) h c) (λ same. subst (Contains (old ++ g ∷ [])) (sym same) (Contains-append_right old (g ∷ []) g (Contains-first g []))) e),
  );
  once = distinct_yet old g new;
}

pub gains_alike : (Has Having : Plane → Type 0) (old new : List Plane) → ((h : Plane) → Has h ↔ Having h) → Gains Has old new → Gains Having old new
gains_alike Has Having old new alike gains = record {
  members = λ h. (
    (λ c. ⊎_elim inl (λ has. inr ((alike h).0 has)) ((gains.members h).0 c)),
    (λ e. (gains.members h).1 (⊎_elim inl (λ having. inr ((alike h).1 having)) e)),
  );
  once = gains.once;
}

pub gains_both : (Has Having : Plane → Type 0) (old mid new : List Plane) → Gains Has old mid → Gains Having mid new → Gains (λ h. Has h ⊎ Having h) old new
gains_both Has Having old mid new first second = record {
  members = λ h. (
    (λ c. ⊎_elim (λ d. ⊎_elim inl (λ has. inr (inl has)) ((first.members h).0 d)) (λ having. inr (inr having)) ((second.members h).0 c)),
    (λ e. (second.members h).1 (⊎_elim (λ c. inl ((first.members h).1 (inl c))) (λ either. ⊎_elim (λ has. inl ((first.members h).1 (inr has))) inr either) e)),
  );
  once = λ distinct. second.once (first.once distinct);
}

-- ---- in a loop over places

pub gains_at_first : (Has : ℕ → Plane → Type 0) (old : List Plane) → Gains (HasBelow 0 Has) old old
gains_at_first Has old = gains_none (HasBelow 0 Has) old (λ h has. let l = has.1 in omega arith)

pub gains_next : (Has : ℕ → Plane → Type 0) (n : ℕ) (old mid new : List Plane) → Gains (HasBelow n Has) old mid → Gains (Has n) mid new → Gains (HasBelow (suc n) Has) old new
gains_next Has n old mid new first second = gains_alike (λ h. HasBelow n Has h ⊎ Has n h) (HasBelow (suc n) Has) old new
    (λ h. (
      (λ e. ⊎_elim (λ less. (less.0, (let l = less.1 in omega arith), less.2)) (λ last. (n, omega arith, last)) e),
      (λ has. ⊎_elim (λ same. inr (subst (λ i. Has i h) same has.2)) (λ other. inl (has.0, (let l = has.1 in omega (arith, other)), has.2)) (cases_eq has.0 n)),
    ))
    (gains_both (HasBelow n Has) (Has n) old mid new first second)

-- ---- from nothing

pub gained_exactly : (Has : Plane → Type 0) (new : List Plane) → Gains Has [] new → HasExactly Has new
gained_exactly Has new gains h = ((λ c. ⊎_elim (λ none. absurd (no_element h none)) (λ has. has) ((gains.members h).0 c)), (λ has. (gains.members h).1 (inr has)))

pub none_twice : AreDistinct []
none_twice m n h at_m at_n = absurd (no_element h (Contains-at [] m h at_m))
