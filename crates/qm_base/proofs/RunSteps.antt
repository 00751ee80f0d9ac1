-- The kinds of lanes, and their lanes as bits, one by one.
use Rattle.std.proofs.Common.{◌≡◌, ℕ, ◌+◌, ◌*◌, ◌%◌, ◌^◌, ◌<◌, ◌≤◌, true, List, [], ◌∷◌, ◌++◌, length, bit_or, Some, slice_get, inl, inr, ⊎_elim, sym, ap, ◌∙◌, subst, arith, ◌↔◌}
use Rattle.std.specs.List.{Contains}
use Rattle.std.proofs.lemmas.Bool.{cases_eq}
use Rattle.std.proofs.lemmas.List.Elements.{Contains-append_left, Contains-push, Contains-push_cases}
use Rattle.std.proofs.lemmas.Option.{slice_get_within}
use Rattle.qm_lists.proofs.Elements.{Contains-at, Contains-nil}
use Rattle.qm_lists.specs.Word.{has_bit}
use Rattle.qm_lists.proofs.Bits.{has_bit-or, has_bit-zero}
use Rattle.qm_base.specs.declared.table.Kind.{Kind}
use Rattle.qm_base.specs.declared.runs.Run.{Run}
use Rattle.qm_base.specs.inner.Runs.{IsOfKind, HasRun, AreRuns}
use Rattle.qm_base.proofs.Words.{or_true, one_bit}

-- ---- how far loops have come

-- the kinds before a place have runs
pub record RunsSoFar (kinds : List Kind) (place : ℕ) (runs : List Run) : Type 0 where
  pub exactly : (run : Run) → Contains runs run → (j : ℕ) → (has_bit run.lanes j ≡ true) ↔ IsOfKind kinds run.kind j
  pub only : (run : Run) → Contains runs run → Contains kinds run.kind
  pub every : (j : ℕ) (kind : Kind) → j < place → slice_get kinds j ≡ Some kind → HasRun runs kind

-- the lanes of the kind before a place have their bits
abbrev pub LanesSoFar : List Kind → Kind → ℕ → ℕ → Type 0
LanesSoFar kinds kind place lanes = (j : ℕ) → (has_bit lanes j ≡ true) ↔ ((j < place) × IsOfKind kinds kind j)

-- ---- the lanes of a kind

module _ (kinds : List Kind) (kind : Kind) (place lanes : ℕ) (so_far : LanesSoFar kinds kind place lanes) where
  pub lane_more : place < 64 → slice_get kinds place ≡ Some kind → LanesSoFar kinds kind (place + 1) (bit_or lanes (1 * 2 ^ place % 2 ^ 64))
  lane_more few is j = (
    (λ set_now. ⊎_elim
        (λ was. let both = (so_far j).0 was in (omega (arith, both.0), both.1))
        (λ now. let here = (one_bit place j few).0 now in (omega (arith, here), ap (slice_get kinds) here ∙ is))
        ((or_true (has_bit lanes j) (has_bit (1 * 2 ^ place % 2 ^ 64) j)).0 (sym (has_bit-or lanes (1 * 2 ^ place % 2 ^ 64) j) ∙ set_now))),
    (λ both. has_bit-or lanes (1 * 2 ^ place % 2 ^ 64) j ∙ (or_true (has_bit lanes j) (has_bit (1 * 2 ^ place % 2 ^ 64) j)).1 (⊎_elim
        (λ here. inr ((one_bit place j few).1 here))
        (λ other. inl ((so_far j).1 (omega (arith, both.0, other), both.1)))
        (cases_eq j place))),
  )

  pub lane_other : (slice_get kinds place ≡ Some kind → ⊥) → LanesSoFar kinds kind (place + 1) lanes
  lane_other never j = (
    (λ was. let both = (so_far j).0 was in (omega (arith, both.0), both.1)),
    (λ both. ⊎_elim
        (λ here. absurd (never (ap (slice_get kinds) (sym here) ∙ both.1)))
        (λ other. (so_far j).1 (omega (arith, both.0, other), both.1))
        (cases_eq j place)),
  )

  pub lanes_all : length kinds ≤ place → (j : ℕ) → (has_bit lanes j ≡ true) ↔ IsOfKind kinds kind j
  lanes_all all j = (
    (λ is. ((so_far j).0 is).1),
    (λ of. (so_far j).1 (let within = slice_get_within kinds j kind of in omega (arith, within, all), of)),
  )

pub no_lanes : (kinds : List Kind) (kind : Kind) → LanesSoFar kinds kind 0 0
no_lanes kinds kind j = ((λ is. absurd (let never = sym (has_bit-zero j) ∙ is in cc)), (λ both. absurd (omega (arith, both.0))))

-- ---- the kinds

pub no_runs : (kinds : List Kind) → RunsSoFar kinds 0 []
no_runs kinds = record {
  exactly = λ run among. absurd (Contains-nil run among);
  only = λ run among. absurd (Contains-nil run among);
  every = λ j kind less is. absurd (omega (arith, less));
}

module _ (kinds : List Kind) (place : ℕ) (runs : List Run) (so_far : RunsSoFar kinds place runs) (kind : Kind) (here : slice_get kinds place ≡ Some kind) where
  more_run : (run : Run) → run.kind ≡ kind → HasRun (runs ++ run ∷ []) kind
  more_run run of = record { run = run; among = Contains-push runs run; of = of }

  had_run : (run : Run) (other : Kind) → HasRun runs other → HasRun (runs ++ run ∷ []) other
  had_run run other had = record { run = had.run; among = Contains-append_left runs (run ∷ []) had.run had.among; of = had.of }

  same_kind : (j : ℕ) (other : Kind) → j ≡ place → slice_get kinds j ≡ Some other → kind ≡ other
  same_kind j other at is = let both : Some kind ≡ Some other = sym here ∙ ap (slice_get kinds) (sym at) ∙ is in cc

  pub run_more : (run : Run) → run.kind ≡ kind → ((j : ℕ) → (has_bit run.lanes j ≡ true) ↔ IsOfKind kinds kind j) → RunsSoFar kinds (place + 1) (runs ++ run ∷ [])
  run_more run of exact = record {
    exactly = λ r among. ⊎_elim
        (λ was. so_far.exactly r was)
        (λ now. subst (λ (s : Run). (j : ℕ) → (has_bit s.lanes j ≡ true) ↔ IsOfKind kinds s.kind j) now (subst (λ (k : Kind). (j : ℕ) → (has_bit run.lanes j ≡ true) ↔ IsOfKind kinds k j) (sym of) exact))
        (Contains-push_cases runs run r among);
    only = λ r among. ⊎_elim
        (λ was. so_far.only r was)
        (λ now. subst (λ (s : Run). Contains kinds s.kind) now (subst (Contains kinds) (sym of) (Contains-at kinds place kind here)))
        (Contains-push_cases runs run r among);
    every = λ j other less is. ⊎_elim
        (λ at. subst (HasRun (runs ++ run ∷ [])) (same_kind j other at is) (more_run run of))
        (λ apart. had_run run other (so_far.every j other (omega (arith, less, apart)) is))
        (cases_eq j place);
  }

  pub run_same : (before : ℕ) → place ≡ before + 1 → slice_get kinds before ≡ Some kind → RunsSoFar kinds (place + 1) runs
  run_same before next was = record {
    exactly = so_far.exactly;
    only = so_far.only;
    every = λ j other less is. ⊎_elim
        (λ at. subst (HasRun runs) (same_kind j other at is) (so_far.every before kind (omega (arith, next)) was))
        (λ apart. so_far.every j other (omega (arith, less, apart)) is)
        (cases_eq j place);
  }

pub runs_all : (kinds : List Kind) (place : ℕ) (runs : List Run) → length kinds ≤ place → RunsSoFar kinds place runs → AreRuns kinds runs
runs_all kinds place runs all so_far = record {
  exactly = so_far.exactly;
  only = so_far.only;
  every = λ j kind is. so_far.every j kind (let within = slice_get_within kinds j kind is in omega (arith, within, all)) is;
}
