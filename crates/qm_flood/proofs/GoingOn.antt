-- Going on from a leaf to more and more others.
use Rattle.std.proofs.Common.{◌≡◌, ℕ, ◌+◌, ◌<◌, List, [], ◌∷◌, ◌++◌, take, length, get_or, set, ◌⊎◌, inl, inr, ⊎_elim, sym, ◌∙◌, subst, arith}
use Rattle.std.specs.List.{Contains}
use Rattle.std.proofs.lemmas.List.{take_more, length-set}
use Rattle.std.proofs.lemmas.List.Elements.{Contains-append_left, Contains-push_cases, Contains-push}
use Rattle.qm_lists.specs.inner.Steps.{steps_of}
use Rattle.qm_lists.proofs.SpreadSteps.{spreads_skip, spreads_gain}
use Rattle.qm_partition.specs.Tree.{Tree}
use Rattle.qm_partition.specs.Counting.{leaf_count}
use Rattle.qm_contacts.specs.Reached.{IsPassable}
use Rattle.qm_flood.specs.inner.Spreading.{CanGoOn, GoesToOneOf, GoesOnToOneOf}

module _ (tree : Tree) (others : List ℕ) (leaf i next : ℕ) (old_steps steps old_found found : List ℕ) (within : i < length others) (at : get_or others i 0 ≡ next) (so_far : GoesOnToOneOf tree (take i others) leaf old_steps steps old_found found) where
  one_more : take (i + 1) others ≡ take i others ++ next ∷ []
  one_more = rw (← at) (take_more others i 0 within)

  also : (to : ℕ) → GoesToOneOf tree (take i others) leaf to → GoesToOneOf tree (take (i + 1) others) leaf to
  also to goes = (subst (λ (list : List ℕ). Contains list to) (sym one_more) (Contains-append_left (take i others) (next ∷ []) to goes.0), goes.1)

  known : (to : ℕ) → GoesToOneOf tree (take (i + 1) others) leaf to → GoesToOneOf tree (take i others) leaf to ⊎ (to ≡ next)
  known to goes = ⊎_elim
      (λ was. inl (was, goes.1))
      (λ here. inr (sym here))
      (Contains-push_cases (take i others) next to (subst (λ (list : List ℕ). Contains list to) one_more goes.0))

  -- the next one has steps, or cannot be passed
  pub none_gained : (0 < steps_of steps next) ⊎ (IsPassable tree next → ⊥) → GoesOnToOneOf tree (take (i + 1) others) leaf old_steps steps old_found found
  none_gained why = record {
    same_length = so_far.same_length;
    spreads = spreads_skip (GoesToOneOf tree (take i others)) (GoesToOneOf tree (take (i + 1) others)) leaf old_steps steps old_found found so_far.spreads also
        (λ to goes. ⊎_elim
        (λ was. inl was)
        (λ here. ⊎_elim
        (λ some. inr (subst (λ (n : ℕ). 0 < steps_of steps n) (sym here) some))
        (λ never. absurd (never (subst (IsPassable tree) here goes.1)))
        why)
        (known to goes));
  }

  -- or it gets them
  pub one_gained : CanGoOn tree leaf old_steps old_found → next < leaf_count tree.shape → steps_of steps next ≡ 0 → IsPassable tree next → GoesOnToOneOf tree (take (i + 1) others) leaf old_steps (set steps next (steps_of old_steps leaf + 1)) old_found (found ++ next ∷ [])
  one_gained can in_tree none passable = record {
    same_length = length-set steps next (steps_of old_steps leaf + 1) ∙ so_far.same_length;
    spreads = spreads_gain (GoesToOneOf tree (take i others)) (GoesToOneOf tree (take (i + 1) others)) leaf old_steps steps old_found found so_far.spreads also
        next can.listed (let same = so_far.same_length in let each = can.one_each in omega (arith, in_tree, same, each)) none
        (subst (λ (list : List ℕ). Contains list next) (sym one_more) (Contains-push (take i others) next), passable) known;
  }
