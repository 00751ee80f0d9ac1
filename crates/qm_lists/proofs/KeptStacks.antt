-- A stack as code keeps it: how it begins, what taking its last entry off keeps, and what is done at the end.
use Rattle.std.proofs.Common.{◌≡◌, ◌<◌, ℕ, List, [], ◌∷◌, ◌++◌, Some, map, refl, sym, ap, ◌∙◌, subst, arith}
use Rattle.std.specs.Prelude.{sum_by}
use Rattle.std.proofs.lemmas.List.{map-append}
use Rattle.std.proofs.lemmas.List.Elements.{All-nil, All-cons, All-pop, All-append}
use Rattle.std.proofs.lemmas.List.Sums.{sum_by-append}
use Rattle.qm_lists.specs.inner.Stack.{ComesTo, Completes, IsStack, IsLeft, Leaves, IsTakenOff, StandsForKnown, IsUnderWay}
use Rattle.qm_lists.proofs.Stacks.{one_due, taken, nothing_due, last_of_map}

module _ {Entry Kept Item : Type 0} (kept_of : Entry → Kept) (IsKnown : Entry → Type 0) (By : Entry → List Item → Type 0) where
  none_left : (entries : List Entry) → map kept_of entries ≡ [] → entries ≡ []
  none_left [] e = refl
  none_left (entry ∷ entries) e = absurd cc

  -- one entry is due for all that is wanted
  pub stack_begins : (IsWanted : List Item → Type 0) (entry : Entry) → IsKnown entry → ((own : List Item) → By entry own → IsWanted own) → IsStack kept_of IsKnown By IsWanted (kept_of entry ∷ []) []
  stack_begins IsWanted entry known wanted = record {
    entries = entry ∷ [];
    kept_is = refl;
    known = All-cons IsKnown entry [] known (All-nil IsKnown);
    completes = one_due By IsWanted entry wanted;
  }

  -- what is known of the last entry
  pub stack_last : (IsWanted : List Item → Type 0) (below : List Kept) (first : Kept) (done : List Item) → IsStack kept_of IsKnown By IsWanted (below ++ first ∷ []) done → (entry : Entry) × (kept_of entry ≡ first) × IsKnown entry
  stack_last IsWanted below first done is =
      let last = last_of_map kept_of is.entries below first is.kept_is in
      (last.1, last.4, (All-pop IsKnown is.entries last.0 (Some last.1) last.2 is.known).1)

  -- once it is taken off
  pub stack_goes_on : (IsWanted : List Item → Type 0) (weight : Kept → ℕ) (below new : List Kept) (first : Kept) (done new_done : List Item) → IsStack kept_of IsKnown By IsWanted (below ++ first ∷ []) done → IsTakenOff kept_of IsKnown By weight first below new done new_done → IsStack kept_of IsKnown By IsWanted new new_done
  stack_goes_on IsWanted weight below new first done new_done is by =
      let last = last_of_map kept_of is.entries below first is.kept_is in
      let known = All-pop IsKnown is.entries last.0 (Some last.1) last.2 is.known in
      let left = by.leaves last.1 last.4 known.1 in
      record {
        entries = last.0 ++ left.entries;
        kept_is = map-append kept_of last.0 left.entries ∙ (λ i. last.3 i ++ left.kept_is i) ∙ sym by.stack_is;
        known = All-append IsKnown last.0 left.entries known.0 left.known;
        completes =
            subst (λ (all : List Item). Completes By IsWanted (last.0 ++ left.entries) all) (sym by.done_is)
            (taken By IsWanted last.0 left.entries last.1 done by.own (subst (λ (entries : List Entry). Completes By IsWanted entries done) last.2 is.completes) left.rest);
      }

  -- where none is left
  pub stack_ends : (IsWanted : List Item → Type 0) (done : List Item) → IsStack kept_of IsKnown By IsWanted [] done → IsWanted done
  stack_ends IsWanted done is = nothing_due By IsWanted done (subst (λ (entries : List Entry). Completes By IsWanted entries done) (none_left is.entries is.kept_is) is.completes)

  -- an entry stands for itself
  pub leaves_itself : (first : Kept) → Leaves kept_of IsKnown By first (first ∷ []) []
  leaves_itself first entry same known = record {
    entries = entry ∷ [];
    kept_is = ap (λ k. k ∷ []) same;
    known = All-cons IsKnown entry [] known (All-nil IsKnown);
    rest = λ all comes. subst (By entry) (sym (comes.4 ∙ ap (λ others. others ++ comes.0) comes.3)) comes.2;
  }

  -- and where one is left alone, what that leaves
  pub leaves_then : (first next : Kept) (others : List Kept) (own : List Item) → Leaves kept_of IsKnown By first (next ∷ []) [] → Leaves kept_of IsKnown By next others own → Leaves kept_of IsKnown By first others own
  leaves_then first next others own one then entry same known = from (one entry same known)
    where
      from : IsLeft kept_of IsKnown By entry (next ∷ []) [] → IsLeft kept_of IsKnown By entry others own
      from left =
          let last = last_of_map kept_of left.entries [] next left.kept_is in
          let all_known = All-pop IsKnown left.entries last.0 (Some last.1) last.2 left.known in
          let alone : left.entries ≡ last.1 ∷ [] = last.2 ∙ ap (λ (os : List Entry). os ++ last.1 ∷ []) (none_left last.0 last.3) in
          let its = then last.1 last.4 all_known.1 in
          record {
            entries = its.entries;
            kept_is = its.kept_is;
            known = its.known;
            rest = λ all comes. left.rest (own ++ all) (subst (λ (entries : List Entry). ComesTo By entries (own ++ all)) (sym alone) (own ++ all, [], its.rest all comes, refl, refl));
          }

  -- ---- all that one entry comes to

  pub under_way_first : (first : Kept) → IsUnderWay kept_of IsKnown By first (first ∷ []) []
  under_way_first first entry same known =
      subst (λ (k : Kept). IsStack kept_of IsKnown By (By entry) (k ∷ []) []) same (stack_begins (By entry) entry known (λ own by. by))

  module _ (first : Kept) (before below : List Kept) (next : Kept) (done : List Item) (is : before ≡ below ++ next ∷ []) where
    -- the next one is known
    pub under_way_next : StandsForKnown kept_of IsKnown By first → IsUnderWay kept_of IsKnown By first before done → StandsForKnown kept_of IsKnown By next
    under_way_next (entry, same, known) under = stack_last (By entry) below next done (subst (λ (kept : List Kept). IsStack kept_of IsKnown By (By entry) kept done) is (under entry same known))

    module _ (weight : Kept → ℕ) (new : List Kept) (new_done : List Item) (step : IsTakenOff kept_of IsKnown By weight next below new done new_done) where
      -- it is taken off
      pub under_way_goes_on : IsUnderWay kept_of IsKnown By first before done → IsUnderWay kept_of IsKnown By first new new_done
      under_way_goes_on under entry same known =
          stack_goes_on (By entry) weight below new next done new_done (subst (λ (kept : List Kept). IsStack kept_of IsKnown By (By entry) kept done) is (under entry same known)) step

      -- and there is less to do
      pub under_way_smaller : sum_by weight new < sum_by weight before
      under_way_smaller =
          omega (arith, ap (sum_by weight) is, ap (sum_by weight) step.stack_is, sum_by-append weight below step.others, sum_by-append weight below (next ∷ []), step.lighter)

  pub under_way_last : (first : Kept) (done : List Item) → IsUnderWay kept_of IsKnown By first [] done → (entry : Entry) → kept_of entry ≡ first → IsKnown entry → By entry done
  under_way_last first done under entry same known = stack_ends (By entry) done (under entry same known)
