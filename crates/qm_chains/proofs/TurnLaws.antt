-- What is shown by open chains, and rows of portals that are found in turns.
use Rattle.std.proofs.Common.{◌≡◌, ◌≢◌, ℕ, zero, suc, ◌<◌, List, [], ◌∷◌, ◌++◌, length, Some, sym, subst, ◌∙◌, arith, ⊎_elim}
use Rattle.std.proofs.lemmas.Bool.{cases_eq}
use Rattle.std.proofs.lemmas.Option.{slice_get_within}
use Rattle.std.proofs.lemmas.List.Elements.{All-weaker, All-contains, Contains-append_right}
use Rattle.qm_lists.proofs.Elements.{Contains-first}
use Rattle.qm_contacts.specs.Portals.{Portal}
use Rattle.qm_separators.specs.PortalSteps.{IsInChainBound}
use Rattle.qm_chains.specs.Shown.{IsAt, IsShown}
use Rattle.qm_chains.specs.Turns.{IsInCoarseRowAt, MayHaveAfter, turns_up_to, IsInReuse}

module _ (portals : List Portal) where
  -- ---- what is shown

  pub shown_weaker : (Has Also : ℕ → Type 0) → ((q : ℕ) → Has q → Also q) → (p n : ℕ) → IsShown portals Has p n → IsShown portals Also p n
  shown_weaker Has Also weaker p n shown = record {
    first = shown.first;
    first_is = shown.first_is;
    last = shown.last;
    before = shown.before;
    state = shown.state;
    open_chain = shown.open_chain;
    ends = shown.ends;
    later = shown.later;
    numbers_are = shown.numbers_are;
    each_has = All-weaker Has Also weaker (shown.later ++ p ∷ []) shown.each_has;
  }

  module _ (Has : ℕ → Type 0) (p n : ℕ) (shown : IsShown portals Has p n) where
    pub first_has : Has p
    first_has = All-contains Has (shown.later ++ p ∷ []) p shown.each_has (Contains-append_right shown.later (p ∷ []) p (Contains-first p []))

    -- it is in the bound of the portal
    pub shown_in_bound : IsInChainBound portals shown.first n
    shown_in_bound = record { last = shown.last; before = shown.before; state = shown.state; open_chain = shown.open_chain; ends = shown.ends }

  -- ---- turns

  pub after_in_coarse : (turns : List ℕ) (n q : ℕ) → MayHaveAfter portals turns n q → IsInCoarseRowAt portals n q
  after_in_coarse [] n q may = may
  after_in_coarse (p ∷ turns) n q may = after_in_coarse turns n q may.0

  -- The law of one turn, whatever rows are: where the new row of p has a leaf only if it is shown over the old rows, and no
  -- other row gains a leaf, all rows stay within what they may have after the turn.
  pub turn_taken : (turns : List ℕ) (p : ℕ) (Old New : ℕ → ℕ → Type 0) →
      ((n q : ℕ) → Old n q → MayHaveAfter portals turns n q) →
      ((n : ℕ) → New n p → IsShown portals (Old n) p n) →
      ((n q : ℕ) → q ≢ p → New n q → Old n q) →
      (n q : ℕ) → New n q → MayHaveAfter portals (p ∷ turns) n q
  turn_taken turns p Old New old found stays n q has = ⊎_elim
      (λ same.
      let shown = shown_weaker (Old n) (MayHaveAfter portals turns n) (old n) p n (found n (subst (New n) same has)) in
      (subst (MayHaveAfter portals turns n) (sym same) (first_has (MayHaveAfter portals turns n) p n shown), λ again. shown))
      (λ other. (old n q (stays n q other has), λ same. absurd (other same)))
      (cases_eq q p)

  -- ---- reuse

  -- a leaf that the row of a portal may have after its turn is in the bound of the portal
  bound_after : (k n q : ℕ) (portal : Portal) → IsAt portals q portal → q < k → MayHaveAfter portals (turns_up_to k) n q → IsInChainBound portals portal n
  bound_after zero n q portal at less may = absurd (omega (arith, less))
  bound_after (suc k) n q portal at less may = ⊎_elim
      (λ same.
      let shown = may.1 same in
      let first : shown.first ≡ portal = let e : Some shown.first ≡ Some portal = sym shown.first_is ∙ subst (λ (i : ℕ). IsAt portals i portal) same at in cc in
      subst (λ (p : Portal). IsInChainBound portals p n) first (shown_in_bound (MayHaveAfter portals (turns_up_to k) n) k n shown))
      (λ other. bound_after k n q portal at (omega (arith, less, other)) may.0)
      (cases_eq q k)

  -- so the reuse of a portal lies within its bound
  pub reuse_in_bound : (n q : ℕ) (portal : Portal) → IsAt portals q portal → IsInReuse portals q n → IsInChainBound portals portal n
  reuse_in_bound n q portal at may = bound_after (length portals) n q portal at (slice_get_within portals q portal at) may
