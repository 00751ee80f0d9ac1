-- Properties that some list of planes has exactly.
use Rattle.std.proofs.Common.{◌≡◌, ℕ, zero, suc, ◌<◌, List, [], ◌∷◌, ◌++◌, Contains, sym, subst, arith, ◌⊎◌, inl, inr, ⊎_elim, ◌↔◌}
use Rattle.std.proofs.lemmas.Bool.{cases_eq}
use Rattle.std.proofs.lemmas.List.Elements.{Contains-append_left, Contains-append_right, Contains-append_cases}
use Rattle.qm_lists.proofs.Elements.{Contains-first, Contains-later, Contains-cons_cases}
use Rattle.qm_space.specs.Plane.{Plane}
use Rattle.qm_separators.specs.Gains.{HasExactly}

abbrev pub Listed : (Plane → Type 0) → Type 0
Listed Has = (planes : List Plane) × HasExactly Has planes

pub no_element : (h : Plane) → Contains [] h → ⊥
no_element h c = let l = c.1 in omega arith

pub listed_none : (Has : Plane → Type 0) → ((h : Plane) → Has h → ⊥) → Listed Has
listed_none Has none = ([], λ h. ((λ c. absurd (no_element h c)), (λ has. absurd (none h has))))

pub listed_alike : (Has Having : Plane → Type 0) → ((h : Plane) → Has h ↔ Having h) → Listed Has → Listed Having
listed_alike Has Having alike l = (l.0, λ h. ((λ c. (alike h).0 ((l.1 h).0 c)), (λ having. (l.1 h).1 ((alike h).1 having))))

pub listed_one : (g : Plane) → Listed (λ h. h ≡ g)
listed_one g = (g ∷ [], λ h. ((λ c. ⊎_elim sym (λ more. absurd (no_element h more)) (Contains-cons_cases g h [] c)), (λ e. subst (Contains (g ∷ [])) (sym e) (Contains-first g []))))

pub listed_either : (Has Having : Plane → Type 0) → Listed Has → Listed Having → Listed (λ h. Has h ⊎ Having h)
listed_either Has Having l m = (
  l.0 ++ m.0,
  λ h. (
    (λ c. ⊎_elim (λ d. inl ((l.1 h).0 d)) (λ d. inr ((m.1 h).0 d)) (Contains-append_cases l.0 m.0 h c)),
    (λ e. ⊎_elim (λ has. Contains-append_left l.0 m.0 h ((l.1 h).1 has)) (λ having. Contains-append_right l.0 m.0 h ((m.1 h).1 having)) e),
  ),
)

-- for one of the places below a number
pub listed_below : (n : ℕ) (Has : ℕ → Plane → Type 0) → ((i : ℕ) → i < n → Listed (Has i)) → Listed (λ h. (i : ℕ) × (i < n) × Has i h)
listed_below zero Has each = listed_none (λ h. (i : ℕ) × (i < 0) × Has i h) (λ h has. let l = has.1 in omega arith)
listed_below (suc n) Has each = listed_alike (λ h. Has n h ⊎ ((i : ℕ) × (i < n) × Has i h)) (λ h. (i : ℕ) × (i < suc n) × Has i h)
    (λ h. (
      (λ e. ⊎_elim (λ last. (n, omega arith, last)) (λ less. (less.0, (let l = less.1 in omega arith), less.2)) e),
      (λ has. ⊎_elim (λ same. inl (subst (λ i. Has i h) same has.2)) (λ other. inr (has.0, (let l = has.1 in omega (arith, other)), has.2)) (cases_eq has.0 n)),
    ))
    (listed_either (Has n) (λ h. (i : ℕ) × (i < n) × Has i h) (each n (omega arith)) (listed_below n Has (λ i l. each i (omega arith))))

-- those of a list that have a property
abbrev Kept : (Plane → Type 0) → List Plane → Type 0
Kept Has planes = (some : List Plane) × ((h : Plane) → Contains some h ↔ (Contains planes h × Has h))

one_kept : (Has : Plane → Type 0) (g : Plane) (planes : List Plane) → Has g → Kept Has planes → Kept Has (g ∷ planes)
one_kept Has g planes has rest = (
  g ∷ rest.0,
  λ h. (
    (λ c. ⊎_elim (λ e. (subst (Contains (g ∷ planes)) e (Contains-first g planes), subst Has e has)) (λ more. let d = (rest.1 h).0 more in (Contains-later g h planes d.0, d.1)) (Contains-cons_cases g h rest.0 c)),
    (λ c. ⊎_elim (λ e. subst (Contains (g ∷ rest.0)) e (Contains-first g rest.0)) (λ more. Contains-later g h rest.0 ((rest.1 h).1 (more, c.1))) (Contains-cons_cases g h planes c.0)),
  ),
)

one_dropped : (Has : Plane → Type 0) (g : Plane) (planes : List Plane) → (Has g → ⊥) → Kept Has planes → Kept Has (g ∷ planes)
one_dropped Has g planes not rest = (
  rest.0,
  λ h. (
    (λ c. let d = (rest.1 h).0 c in (Contains-later g h planes d.0, d.1)),
    (λ c. ⊎_elim (λ e. absurd (not (subst Has (sym e) c.1))) (λ more. (rest.1 h).1 (more, c.1)) (Contains-cons_cases g h planes c.0)),
  ),
)

kept : (Has : Plane → Type 0) → ((h : Plane) → Has h ⊎ (Has h → ⊥)) → (planes : List Plane) → Kept Has planes
kept Has decide [] = ([], λ h. ((λ c. absurd (no_element h c)), (λ c. absurd (no_element h c.0))))
kept Has decide (g ∷ planes) = ⊎_elim (λ has. one_kept Has g planes has (kept Has decide planes)) (λ not. one_dropped Has g planes not (kept Has decide planes)) (decide g)

pub listed_where : (Has Having : Plane → Type 0) → Listed Has → ((h : Plane) → Having h ⊎ (Having h → ⊥)) → Listed (λ h. Has h × Having h)
listed_where Has Having l decide =
    let k = kept Having decide l.0 in
    (k.0, λ h. ((λ c. let d = (k.1 h).0 c in ((l.1 h).0 d.0, d.1)), (λ both. (k.1 h).1 ((l.1 h).1 both.0, both.1))))
