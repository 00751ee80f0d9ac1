-- The row of a pair, by the frame of the chain with both portals and its cone.
use Rattle.std.proofs.Common.{◌≡◌, ◌⊎◌, inl, inr, ⊎_elim, ℕ, ◌<◌, Bool, List, [], ◌∷◌, length, sym, ◌∙◌, subst}
use Rattle.std.proofs.lemmas.List.Elements.{All-nil}
use Rattle.std.proofs.lemmas.Option.{slice_get_within}
use Rattle.qm_lists.specs.WorkList.{IsIn}
use Rattle.qm_contacts.specs.OwnPortals.{HasOwnPortals}
use Rattle.qm_contacts.specs.Portals.{Portal}
use Rattle.qm_contacts.specs.NumberedLeaves.{numbered_leaves}
use Rattle.qm_contacts.specs.World.{World, AreLeaving}
use Rattle.qm_separators.specs.ChainState.{ChainState}
use Rattle.qm_separators.specs.PortalSteps.{StepsThrough, BlocksAt}
use Rattle.qm_chains.specs.Shown.{IsAt}
use Rattle.qm_lists.specs.CutTo.{IsCutTo}
use Rattle.qm_chains.specs.inner.Cone.{IsInCone}
use Rattle.qm_chains.specs.inner.Frame.{Frame, IsAwaited}
use Rattle.qm_chains.specs.inner.OwnRows.{CanHave}
use Rattle.qm_chains.specs.inner.Pairs.{Pairs, IsPairRow, ArePairs}
use Rattle.qm_chains.specs.inner.Search.{IsFrameOf}
use Rattle.qm_chains.specs.inner.Wanted.{IsWantedVia}
use Rattle.qm_chains.proofs.PairRows.{wanted_answered, wanted_seen, wanted_in_cone, wanted_awaited, none_behind_block, pairs_stay}
use Rattle.qm_chains.proofs.Searches.{search_begins}
use Rattle.qm_chains.proofs.TriedPortals.{in_or_clear, not_in_if_clear, all_leaving, FindsLast, found_long, found_keeps, found_last}
use Rattle.qm_flow.specs.inner.PairFrame.{IsPairFrame}
use Rattle.qm_flow.specs.inner.SearchSoFar.{IsSearchVia}

module _ (world : World) (own : HasOwnPortals world) (found : List Bool) (pairs : Pairs) (are : ArePairs world found pairs) (number : ℕ) (q : Portal) (q_is : IsAt world.portals number q)
    (ceiling : List Bool) (state : ChainState) (frame : Frame) (is : IsPairFrame world ceiling pairs state number frame) (step : StepsThrough pairs.start q state)
    (cone row : List Bool) (has : (n : ℕ) → IsInCone world pairs.first frame found q.to n → IsIn cone n) (cut : IsCutTo frame.mask cone row) where
  in_mask : (n : ℕ) → IsWantedVia world pairs.first found number n → IsIn frame.mask n
  in_mask n wanted = is.narrowed.keeps n (wanted_seen world found pairs are number n wanted) (wanted_answered world found pairs are number n wanted)

  pub row_of_pair : IsPairRow world pairs.first found number row
  row_of_pair n wanted =
      let in_cone = wanted_in_cone world own found pairs are number q q_is frame (subst (StepsThrough pairs.start q) (sym is.state_is) step) (λ first first_is m there. is.met_is first q first_is q_is m there) in_mask n wanted in
      (cut.exactly n).1 (has n in_cone, in_mask n wanted)

  pub row_can_have : (n : ℕ) → IsIn row n → CanHave ceiling pairs.own number n
  row_can_have n there = (is.narrowed.within n ((cut.exactly n).0 there).1).1

-- ---- a search from the pair on

module _ (world : World) (own : HasOwnPortals world) (found : List Bool) (pairs : Pairs) (are : ArePairs world found pairs) (number : ℕ) (q : Portal) (q_is : IsAt world.portals number q) (found_wide : length found ≡ length (numbered_leaves world.tree)) where
  -- nothing is sought where the step straight to the portal blocks
  pub none_sought : BlocksAt pairs.start q → IsSearchVia world pairs number found [] found
  none_sought blocks = record {
    search = record {
      wide = found_wide;
      frames_are = All-nil (IsFrameOf world);
      none_missed = λ first at n wanted. absurd (none_behind_block world own found pairs are number q q_is blocks n wanted);
    };
    pairs_are = are;
  }

  -- else all that is sought is found or awaited at the frame of the pair, with all portals to be tried that leave the leaf which is
  -- entered
  module _ (ceiling : List Bool) (state : ChainState) (frame : Frame) (is : IsPairFrame world ceiling pairs state number frame) (step : StepsThrough pairs.start q state)
      (untried : List ℕ) (leaving : AreLeaving world.portals q.to untried) (sighted : List Bool) (within : q.to < length found) (finds : FindsLast frame.mask q.to found sighted) where
    abbrev pub begun_frame : Frame
    begun_frame = record { state = frame.state; untried = untried; met = frame.met; mask = frame.mask }

    frame_is : IsFrameOf world begun_frame
    frame_is = record {
      untried_within = λ other there. slice_get_within world.portals other ((leaving.leave other).0 there).0 ((leaving.leave other).0 there).1;
      met_wide = is.met_wide;
      mask_wide = is.narrowed.same_length ∙ are.seen_wide;
    }

    kept_in_mask : (n : ℕ) → IsWantedVia world pairs.first found number n → IsIn frame.mask n
    kept_in_mask n wanted = is.narrowed.keeps n (wanted_seen world found pairs are number n wanted) (wanted_answered world found pairs are number n wanted)

    -- a leaf that is sought, and that was not found before
    sought : (first : Portal) → IsAt world.portals pairs.first first → (n : ℕ) → (IsIn found n → ⊥) → IsWantedVia world pairs.first found number n → IsIn sighted n ⊎ IsAwaited world first n begun_frame
    sought first at n never wanted = ⊎_elim
        (λ here. inl (subst (IsIn sighted) here (found_last frame.mask q.to found sighted within finds (subst (IsIn frame.mask) (sym here) (kept_in_mask n wanted)))))
        (λ awaited. inr awaited)
        (wanted_awaited world own found pairs are number q q_is begun_frame (subst (StepsThrough pairs.start q) (sym is.state_is) step) (λ first first_is m there. is.met_is first q first_is q_is m there) kept_in_mask
        (all_leaving world.portals q.to untried leaving) first at n never wanted)

    pub search_begins_there : IsSearchVia world pairs number found (begun_frame ∷ []) sighted
    search_begins_there = record {
      search = search_begins world pairs.first (λ first n. IsWantedVia world pairs.first found number n) begun_frame sighted (found_long frame.mask q.to found sighted within finds ∙ found_wide) frame_is
          (λ first at n wanted. ⊎_elim
          (λ was. inl (found_keeps frame.mask q.to found sighted within finds n was))
          (λ clear. sought first at n (not_in_if_clear found n clear) wanted)
          (in_or_clear found n));
      pairs_are = pairs_stay world found sighted pairs (found_keeps frame.mask q.to found sighted within finds) are;
    }
