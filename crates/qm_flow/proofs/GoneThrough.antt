-- A chain that goes through a portal: what its try is, by the mask for the next frame, and by what is found.
use Rattle.std.proofs.Common.{◌≡◌, ⊎_elim, inl, inr, ℕ, ◌<◌, true, false, Bool, List, [], length, set, Option, None, get_or, ◌∙◌, subst, arith}
use Rattle.std.proofs.lemmas.List.{length-set, get_or-set_other}
use Rattle.qm_lists.specs.Unseen.{HasUnseen}
use Rattle.qm_lists.specs.WorkList.{IsIn}
use Rattle.qm_lists.proofs.Elements.{Contains-first, Contains-nil}
use Rattle.qm_contacts.specs.NumberedLeaves.{numbered_leaves}
use Rattle.qm_contacts.specs.OwnPortals.{HasOwnPortals}
use Rattle.qm_contacts.specs.Portals.{Portal}
use Rattle.qm_contacts.specs.World.{World, AreLeaving}
use Rattle.qm_segments.proofs.ViaLaws.{target_on_way}
use Rattle.qm_separators.specs.ChainState.{ChainState}
use Rattle.qm_separators.specs.PortalSteps.{StepsThrough}
use Rattle.qm_chains.specs.Shown.{IsAt}
use Rattle.qm_chains.specs.inner.Cone.{IsLeftOf}
use Rattle.qm_chains.specs.inner.Frame.{Frame, put_back, IsNextTo, EndsChain}
use Rattle.qm_chains.specs.inner.Narrowing.{IsNarrowed}
use Rattle.qm_chains.specs.inner.OwnRows.{MustHave, CanHave}
use Rattle.qm_chains.specs.inner.Pairs.{Pairs, ArePairs, LieWithinPairs}
use Rattle.qm_chains.specs.inner.Search.{IsLookedThrough}
use Rattle.qm_chains.specs.inner.Walk.{AreWide}
use Rattle.qm_chains.specs.inner.Wanted.{IsWantedVia}
use Rattle.qm_chains.proofs.ChainEnds.{step_ends, end_shown}
use Rattle.qm_chains.proofs.Cones.{looked_on_left, tried_on_left}
use Rattle.qm_chains.proofs.PairRows.{wanted_answered, can_within}
use Rattle.qm_chains.proofs.TriedPortals.{in_or_clear, not_in_if_clear, next_wanted, same_portal, gains_one, FindsLast, found_long, found_keeps, found_only}
use Rattle.qm_sight.specs.WordInSight.{ceiling_of, LieWithin}
use Rattle.qm_sight.specs.InCeiling.{IsInCeiling}
use Rattle.qm_flow.specs.inner.Round.{IsTry}

module _ (world : World) (pairs : Pairs) (frame : Frame) (portal : ℕ) (found : List Bool) (pairs_are : ArePairs world found pairs) (wide : AreWide world frame found)
    (mask : List Bool) (now : List (List Bool)) (narrowed : IsNarrowed (MustHave world pairs.own portal) (CanHave (ceiling_of now portal) pairs.own portal) frame.mask mask)
    (q : Portal) (q_is : IsAt world.portals portal q) (within : q.to < length (numbered_leaves world.tree)) (new : IsIn frame.met q.to → ⊥)
    (state : ChainState) (step : StepsThrough frame.state q state) (row : List Bool) (finds : FindsLast mask q.to found row) where
  in_met : q.to < length frame.met
  in_met = let long = wide.met in omega (arith, within, long)

  in_found : q.to < length found
  in_found = let long = wide.found in omega (arith, within, long)

  keeps : (n : ℕ) → IsIn frame.mask n → IsWantedVia world pairs.first found portal n → IsIn mask n
  keeps n in_mask wanted = narrowed.keeps n in_mask (wanted_answered world found pairs pairs_are portal n wanted)

  may : (ceilings : List (List Bool)) → LieWithin now ceilings → LieWithinPairs (IsInCeiling ceilings) pairs.own → (n : ℕ) → IsIn mask n → IsIn frame.mask n × IsInCeiling ceilings n portal
  may ceilings lie lie_own n is =
      let its = narrowed.within n is in
      (its.0, can_within (IsInCeiling ceilings) (ceiling_of now portal) pairs.own portal n (λ m has. lie portal m has) lie_own its.1)

  -- what its cone leaves of the next frame
  pub try_left : HasOwnPortals world → (met : List Bool) → met ≡ set frame.met q.to true → (untried : List ℕ) → AreLeaving world.portals q.to untried → (left : Option Frame) →
      IsLeftOf world pairs.first (record { state = state; untried = untried; met = met; mask = mask }) row q.to left → IsTry world now pairs frame portal found row left
  try_left own met met_is untried leaving left is_left =
      let child : Frame = record { state = state; untried = untried; met = met; mask = mask } in
      record {
        looked = looked_on_left world own pairs.first frame portal found q q_is child keeps step in_met met_is leaving in_found row finds left is_left wide.met (narrowed.same_length ∙ wide.mask);
        tried = λ ceilings lie lie_own ends. tried_on_left world own pairs.first frame portal found q q_is child keeps step in_met met_is leaving in_found row finds left is_left
            (IsInCeiling ceilings) (may ceilings lie lie_own) narrowed.same_length ends new;
      }

  -- no frame, where nothing is new beside the leaf that the portal enters
  module _ (alone : HasUnseen mask (set found q.to true) → ⊥) where
    all_found : (n : ℕ) → IsIn mask n → IsIn row n
    all_found n in_mask = ⊎_elim
        (λ is. is)
        (λ clear. absurd (alone (
          n,
          in_mask,
          ⊎_elim
              (λ set_it. subst (λ (r : List Bool). get_or r n false ≡ false) set_it.1 clear)
              (λ kept. get_or-set_other found q.to n true false (λ here. kept.0 (subst (IsIn mask) here in_mask)) ∙ subst (λ (r : List Bool). get_or r n false ≡ false) kept.1 clear)
              finds,
        )))
        (in_or_clear row n)

    looked_alone : IsLookedThrough world pairs.first frame portal found row None
    looked_alone = record {
      same_length = found_long mask q.to found row in_found finds;
      stays = found_keeps mask q.to found row in_found finds;
      child_is = tt;
      none_missed = λ first other first_is at n in_mask next. inl (⊎_elim
          (λ is. found_keeps mask q.to found row in_found finds n is)
          (λ clear.
          let via = subst (IsNextTo world.tree first frame n) (same_portal world.portals portal other q at q_is) next in
          let wanted = next_wanted world pairs.first frame portal found q q_is first first_is n via (not_in_if_clear found n clear) in
          all_found n (keeps n in_mask (wanted n (target_on_way world.tree first q n via.via))))
          (in_or_clear found n));
    }

    -- the chain that ends there
    abbrev last : Frame
    last = record { state = state; untried = []; met = set frame.met q.to true; mask = mask }

    abbrev last_ends : (MayHave : ℕ → ℕ → Type 0) → ((n : ℕ) → IsIn mask n → IsIn frame.mask n × MayHave n portal) → EndsChain world MayHave pairs.first (put_back portal frame) → EndsChain world MayHave pairs.first last
    last_ends MayHave has ends = step_ends world MayHave pairs.first (put_back portal frame) ends portal (Contains-first portal frame.untried) q q_is last step new
        (λ number there. absurd (Contains-nil number there)) (gains_one frame.met q.to in_met) has (length-set frame.met q.to true) narrowed.same_length

    pub try_alone : IsTry world now pairs frame portal found row None
    try_alone = record {
      looked = looked_alone;
      tried = λ ceilings lie lie_own ends. record {
        looked = looked_alone;
        gained = λ n is. ⊎_elim
            (λ old. inl old)
            (λ entered. inr (end_shown world (IsInCeiling ceilings) pairs.first last (last_ends (IsInCeiling ceilings) (may ceilings lie lie_own) ends) n entered.0 entered.1))
            (found_only mask q.to found row in_found finds n is);
        chain = tt;
        fewer = tt;
      };
    }
