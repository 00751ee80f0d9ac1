-- A way that takes one step less with each leaf, to the least such leaf, is the trail.
use Rattle.std.proofs.Common.{◌≡◌, ℕ, ◌+◌, ◌-◌, ◌<◌, ◌≤◌, List, ◌∷◌, length, inl, inr, ⊎_elim, refl, sym, subst, arith}
use Rattle.std.proofs.lemmas.Bool.{cases_eq, cases_lt}
use Rattle.qm_lists.specs.Reach.{start, onward}
use Rattle.qm_lists.specs.inner.Steps.{steps_of, AreSteps}
use Rattle.qm_partition.specs.Tree.{Tree}
use Rattle.qm_contacts.specs.Contact.{Touch}
use Rattle.qm_contacts.specs.Outside.{TouchesOutside}
use Rattle.qm_contacts.specs.Reached.{IsPassable, Begins, FloodsInto, IsReached}
use Rattle.qm_contacts.specs.Leak.{IsWayOut, out, on, IsNotAfter, IsTrail}
use Rattle.qm_contacts.specs.inner.Descends.{Descends, out as at_exit, down}
use Rattle.qm_contacts.proofs.Touchings.{touch_back}

-- what is reached can be passed
pub reached_passable : (tree : Tree) (k : ℕ) → IsReached tree k → IsPassable tree k
reached_passable tree k (start begins) = begins.passable
reached_passable tree k (onward reached goes) = goes.passable

module _ (tree : Tree) (steps : List ℕ) (are : AreSteps (Begins tree) (FloodsInto tree) steps) where
  -- a reached leaf that touches the outside has one step
  one_step : (k : ℕ) → IsReached tree k → TouchesOutside tree k → steps_of steps k ≡ 1
  one_step k reached outside = (are.first k).1 (record { outside = outside; passable = reached_passable tree k reached })

  -- and one that touches another at most one more than it
  one_more : (a b : ℕ) → IsReached tree a → IsReached tree b → Touch tree a b → steps_of steps a ≤ steps_of steps b + 1
  one_more a b reached reached_b touch =
      are.onward b a (record { touch = touch_back tree a b touch; passable = reached_passable tree a reached }) ((are.reached b).1 reached_b)

  first_reached : (k : ℕ) (trail : List ℕ) → IsWayOut tree k trail → IsReached tree k
  first_reached k trail (out reached outside) = reached
  first_reached k trail (on reached touch rest) = reached

  -- each way out has at least as many leaves as its first leaf has steps
  no_shorter : (k : ℕ) (trail : List ℕ) → IsWayOut tree k trail → steps_of steps k ≤ length trail
  no_shorter k trail (out reached outside) = let one = one_step k reached outside in omega (arith, one)
  no_shorter k trail (on {b = b} {rest = rest} reached touch way) =
      let less = no_shorter b (b ∷ rest) way in
      let more = one_more k b reached (first_reached b (b ∷ rest) way) touch in
      omega (arith, less, more)

  -- the way that descends has just as many
  descends_length : (k : ℕ) (trail : List ℕ) → Descends tree steps k trail → length trail ≡ steps_of steps k
  descends_length k trail (at_exit one) = sym one
  descends_length k trail (down {next = next} {rest = rest} near more) = let same = descends_length next (next ∷ rest) more in let is = near.one_less in omega (arith, same, is)

  descends_out : (k : ℕ) (trail : List ℕ) → Descends tree steps k trail → IsWayOut tree k trail
  descends_out k trail (at_exit one) = out ((are.reached k).0 (omega (arith, one))) ((are.first k).0 one).outside
  descends_out k trail (down {next = next} {rest = rest} near more) = let is = near.one_less in on ((are.reached k).0 (omega (arith, is))) near.touch (descends_out next (next ∷ rest) more)

  -- and comes first of the ways of its length
  descends_first : (k : ℕ) (trail other : List ℕ) → Descends tree steps k trail → IsWayOut tree k other → length trail ≡ length other → IsNotAfter trail other
  descends_first k trail other (at_exit one) (out reached outside) same = inr (refl, tt)
  descends_first k trail other (at_exit one) (on reached touch way) same = absurd (omega (arith, same))
  descends_first k trail other (down near more) (out reached outside) same = absurd (omega (arith, same))
  descends_first k trail other (down {next = next} {rest = rest} near more) (on {b = b} {rest = others} reached touch_b way) same =
      let long = descends_length next (next ∷ rest) more in
      let less = no_shorter b (b ∷ others) way in
      let one = one_more k b reached (first_reached b (b ∷ others) way) touch_b in
      let is = near.one_less in
      let b_steps : steps_of steps b ≡ steps_of steps next = omega (arith, long, less, one, same, is) in
      let at_most = near.least b touch_b b_steps in
      inr (
        refl,
        ⊎_elim
            (λ equal.
            subst (λ (c : ℕ). IsNotAfter (next ∷ rest) (c ∷ others)) equal
            (descends_first next (next ∷ rest) (next ∷ others) more (subst (λ (c : ℕ). IsWayOut tree c (c ∷ others)) (sym equal) way) (omega (arith, same))))
            (λ apart. inl (omega (arith, at_most, apart)))
            (cases_eq next b),
      )

  -- so it is the trail
  pub descends_is_trail : (k : ℕ) (trail : List ℕ) → Descends tree steps k trail → IsTrail tree k trail
  descends_is_trail k trail descends = record {
    way_out = descends_out k trail descends;
    least = λ other way. ⊎_elim
        (λ less. inl less)
        (λ not_less.
        let long = descends_length k trail descends in
        let no_less = no_shorter k other way in
        let same : length trail ≡ length other = omega (arith, not_less, long, no_less) in
        inr (same, descends_first k trail other descends way same))
        (cases_lt (length trail) (length other));
  }

  -- a leaf of more than one step touches one of one step less
  pub next_down : (k : ℕ) → 1 < steps_of steps k → (next : ℕ) × (0 < steps_of steps next) × (steps_of steps k ≡ steps_of steps next + 1) × Touch tree k next
  next_down k more =
      let two : steps_of steps k ≡ (steps_of steps k - 2) + 2 = omega (arith, more) in
      let found = are.behind k (steps_of steps k - 2) two in
      (found.0, omega (arith, found.1), omega (arith, found.1, two), touch_back tree found.0 k found.2.touch)

  -- and touches none of fewer steps
  pub none_lower : (a b : ℕ) → 0 < steps_of steps a → 0 < steps_of steps b → Touch tree a b → steps_of steps a ≤ steps_of steps b + 1
  none_lower a b some some_b touch = one_more a b ((are.reached a).0 some) ((are.reached b).0 some_b) touch
