-- Frames end open chains: at the start, and after each step. What a frame may still show, and ends in, is shown.
use Rattle.std.proofs.Common.{◌≡◌, ◌⊎◌, inl, inr, ⊎_elim, ◌↔◌, ℕ, Bool, List, [], ◌∷◌, ◌++◌, map, length, Contains, sym, ◌∙◌, subst}
use Rattle.std.proofs.lemmas.List.Elements.{All-nil, All-cons}
use Rattle.qm_lists.specs.WorkList.{IsIn}
use Rattle.qm_lists.proofs.Elements.{Contains-at, Contains-first, Contains-later, Contains-cons_cases}
use Rattle.qm_contacts.specs.NumberedLeaves.{numbered_leaves}
use Rattle.qm_contacts.specs.Portals.{Portal}
use Rattle.qm_contacts.specs.World.{World}
use Rattle.qm_segments.specs.OpenChain.{leaves_met, alone, longer}
use Rattle.qm_separators.specs.PortalSteps.{BeginsWith, StepsThrough}
use Rattle.qm_chains.specs.Shown.{IsAt, IsShown}
use Rattle.qm_chains.specs.inner.Frame.{Frame, EndsChain}

-- a row has one leaf more
abbrev pub GainsOne : ℕ → List Bool → List Bool → Type 0
GainsOne leaf old new = (n : ℕ) → IsIn new n ↔ (leaf ≡ n) ⊎ IsIn old n

-- the portals of these numbers leave the leaf
abbrev pub AllLeave : List Portal → ℕ → List ℕ → Type 0
AllLeave portals leaf numbers = (number : ℕ) → Contains numbers number → (q : Portal) × IsAt portals number q × (q.from ≡ leaf)

module _ (world : World) (MayHave : ℕ → ℕ → Type 0) (p : ℕ) where
  -- ---- the chain with one portal

  abbrev pub first_ends : (first : Portal) (frame : Frame) → IsAt world.portals p first → BeginsWith first frame.state →
      AllLeave world.portals first.to frame.untried →
      ((n : ℕ) → IsIn frame.met n ↔ Contains (first.from ∷ first.to ∷ []) n) →
      ((n : ℕ) → IsIn frame.mask n → MayHave n p) →
      length frame.met ≡ length (numbered_leaves world.tree) → length frame.mask ≡ length (numbered_leaves world.tree) →
      EndsChain world MayHave p frame
  first_ends first frame first_is begun leave met may met_wide mask_wide = record {
    first = first;
    first_is = first_is;
    last = first;
    before = [];
    open_chain = alone begun;
    later = [];
    numbers_are = (first_is, tt);
    each_may = λ n in_mask. All-cons (MayHave n) p [] (may n in_mask) (All-nil (MayHave n));
    met_is = met;
    untried_leave = leave;
    met_wide = met_wide;
    mask_wide = mask_wide;
  }

  -- ---- what is shown

  module _ (frame : Frame) (ends : EndsChain world MayHave p frame) where
    pub end_shown : (n : ℕ) → ends.last.to ≡ n → IsIn frame.mask n → IsShown world.portals (MayHave n) p n
    end_shown n at_end in_mask = record {
      first = ends.first;
      first_is = ends.first_is;
      last = ends.last;
      before = ends.before;
      state = frame.state;
      open_chain = ends.open_chain;
      ends = at_end;
      later = ends.later;
      numbers_are = ends.numbers_are;
      each_has = ends.each_may n in_mask;
    }

    -- ---- a step

    -- the leaves that the chain has entered
    abbrev met : List ℕ
    met = map (λ (r : Portal). r.to) (ends.last ∷ ends.before)

    -- the leaves met, with one more at the end
    pub one_more : (q : Portal) (n : ℕ) → (q.to ≡ n) ⊎ Contains (leaves_met ends.first (ends.last ∷ ends.before)) n ↔ Contains (leaves_met ends.first (q ∷ ends.last ∷ ends.before)) n
    one_more q n = (
      ⊎_elim
          (λ here. Contains-later ends.first.from n (q.to ∷ met) (subst (Contains (q.to ∷ met)) here (Contains-first q.to met)))
          (λ old. ⊎_elim
          (λ first. subst (Contains (ends.first.from ∷ q.to ∷ met)) first (Contains-first ends.first.from (q.to ∷ met)))
          (λ among. Contains-later ends.first.from n (q.to ∷ met) (Contains-later q.to n met among))
          (Contains-cons_cases ends.first.from n met old)),
      (λ new. ⊎_elim
          (λ first. inr (subst (Contains (ends.first.from ∷ met)) first (Contains-first ends.first.from met)))
          (λ later. ⊎_elim (λ here. inl here) (λ among. inr (Contains-later ends.first.from n met among)) (Contains-cons_cases q.to n met later))
          (Contains-cons_cases ends.first.from n (q.to ∷ met) new)),
    )

    module _ (number : ℕ) (untried : Contains frame.untried number) (q : Portal) (q_is : IsAt world.portals number q) where
      pub q_leaves : q.from ≡ ends.last.to
      q_leaves =
          let other = ends.untried_leave number untried in
          let same : q ≡ other.0 = let both = sym q_is ∙ other.1 in cc in
          subst (λ (r : Portal). r.from ≡ ends.last.to) (sym same) other.2

      abbrev pub step_ends : (next : Frame) → StepsThrough frame.state q next.state → (IsIn frame.met q.to → ⊥) →
          AllLeave world.portals q.to next.untried → GainsOne q.to frame.met next.met →
          ((n : ℕ) → IsIn next.mask n → IsIn frame.mask n × MayHave n number) →
          length next.met ≡ length frame.met → length next.mask ≡ length frame.mask →
          EndsChain world MayHave p next
      step_ends next step new leave gains within met_long mask_long = record {
        first = ends.first;
        first_is = ends.first_is;
        last = q;
        before = ends.last ∷ ends.before;
        open_chain = longer ends.open_chain (Contains-at world.portals number q q_is) q_leaves (λ met. new ((ends.met_is q.to).1 met)) step;
        later = number ∷ ends.later;
        numbers_are = (q_is, ends.numbers_are);
        each_may = λ n in_mask. All-cons (MayHave n) number (ends.later ++ p ∷ []) (within n in_mask).1 (ends.each_may n (within n in_mask).0);
        met_is = λ n. (
          (λ is. (one_more q n).0 (⊎_elim (λ here. inl here) (λ old. inr ((ends.met_is n).0 old)) ((gains n).0 is))),
          (λ met. (gains n).1 (⊎_elim (λ here. inl here) (λ old. inr ((ends.met_is n).1 old)) ((one_more q n).1 met))),
        );
        untried_leave = leave;
        met_wide = met_long ∙ ends.met_wide;
        mask_wide = mask_long ∙ ends.mask_wide;
      }
