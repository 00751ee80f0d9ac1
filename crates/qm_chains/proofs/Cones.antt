-- A leaf that is ahead is in the cone, with all on the way to it. A walk that goes on may be narrowed by its cone, and given up where nothing new is in it.
use Rattle.std.proofs.Common.{ap, ◌≡◌, ◌⊎◌, inl, inr, ⊎_elim, ℕ, ◌+◌, ◌<◌, Bool, true, not, List, ◌∷◌, length, set, Contains, Option, Some, None, refl, sym, ◌∙◌, subst}
use Rattle.std.specs.Prelude.{MatchOption}
use Rattle.std.specs.List.{count_by}
use Rattle.qm_lists.specs.Unseen.{HasUnseen}
use Rattle.qm_lists.specs.WorkList.{IsIn}
use Rattle.qm_lists.specs.Reach.{start, onward}
use Rattle.qm_contacts.specs.OwnPortals.{HasOwnPortals}
use Rattle.qm_contacts.specs.Portals.{Portal, portals_of}
use Rattle.qm_contacts.specs.World.{World, AreLeaving}
use Rattle.qm_segments.specs.LeafNumber.{IsNumberOf}
use Rattle.qm_segments.specs.SeenVia.{IsSeenVia, LiesFartherOn}
use Rattle.qm_segments.specs.Ahead.{IsAheadOver}
use Rattle.qm_segments.specs.Route.{Route, arrived, over}
use Rattle.qm_separators.specs.PortalSteps.{StepsThrough, LetsPass, MeetsState}
use Rattle.qm_segments.proofs.AheadLaws.{ahead_over, ahead_with}
use Rattle.qm_segments.proofs.ViaLaws.{target_on_way}
use Rattle.qm_separators.proofs.ChainLaws.{route_on, route_to_last}
use Rattle.qm_chains.specs.Shown.{IsAt}
use Rattle.qm_lists.specs.CutTo.{IsCutTo}
use Rattle.qm_chains.specs.inner.Cone.{IsInCone, IsLeftOf, with_mask}
use Rattle.qm_contacts.specs.NumberedLeaves.{numbered_leaves}
use Rattle.qm_lists.proofs.Elements.{Contains-first, Contains-later}
use Rattle.std.proofs.lemmas.List.{length-set}
use Rattle.std.proofs.lemmas.Option.{slice_get_within}
use Rattle.qm_chains.specs.inner.Frame.{Frame, put_back, EndsChain, MayEnter, IsNextTo, IsAwaited}
use Rattle.qm_chains.specs.inner.Wanted.{IsWantedVia}
use Rattle.qm_chains.specs.inner.Search.{IsFrameOf, IsLookedThrough}
use Rattle.qm_chains.specs.inner.Walk.{IsTried}
use Rattle.qm_chains.proofs.AwaitedLeaves.{reached_or_awaited}
use Rattle.qm_chains.proofs.ChainEnds.{GainsOne, step_ends, end_shown}
use Rattle.qm_chains.proofs.TriedPortals.{in_or_clear, not_in_if_clear, clear_if_not_in, next_wanted, same_portal, gains_one, all_leave, all_leaving, few_leaving, FindsLast, found_long, found_keeps, found_last, found_only}
use Rattle.qm_chains.proofs.Weights.{fewer_clear}

-- ---- what is ahead

module _ (world : World) (own : HasOwnPortals world) (p : ℕ) (first : Portal) (first_is : IsAt world.portals p first) (frame : Frame) (found : List Bool) (entered n : ℕ) (in_mask : IsIn frame.mask n) (not_found : IsIn found n → ⊥) where
  -- a way over portals that the state lets pass, via which the leaf is seen, and whose leaves the chain may enter, stays in the cone
  way_in_cone : (Has : Portal → Type 0) → ((q : Portal) → Has q → LetsPass frame.state q × IsSeenVia world.tree first q n × MayEnter frame q.to) →
      (from to : ℕ) → Route (portals_of world.tree own.touchings) Has from to → IsInCone world p frame found entered from → IsInCone world p frame found entered to
  way_in_cone Has leads from to arrived there = there
  way_in_cone Has leads from to (over {q = q} listed leaves has rest) there =
      way_in_cone Has leads q.to to rest
      (onward there (record {
        portal = q;
        listed = subst (λ (all : List Portal). Contains all q) (sym own.portals_are) listed;
        from_is = leaves;
        to_is = refl;
        leads = record {
          passed = (leads q has).0;
          may_enter = (leads q has).2;
          leaf = n;
          in_mask = in_mask;
          not_found = not_found;
          wanted = record { first = first; first_is = first_is; target = n; via = (leads q has).1; on_way = target_on_way world.tree first q n (leads q has).1; not_found = not_found };
        };
      }))

  module _ (ahead : IsAheadOver MeetsState world.tree first frame.state entered (MayEnter frame) n) where
    -- each leaf on the way to the one that is ahead
    pub on_way_in_cone : (m j : ℕ) → IsNumberOf world.tree m j → Contains (ahead.here ∷ ahead.rest) j → IsInCone world p frame found entered m
    on_way_in_cone m j number there =
        way_in_cone _ (λ q is. (is.passed, is.via, is.has)) entered m
        (route_on world.tree own.have_points own.touchings own.are_touchings first frame.state entered (MayEnter frame) n ahead m j number there) (start refl)

    -- and that one
    pub ahead_in_cone : IsInCone world p frame found entered n
    ahead_in_cone =
        way_in_cone _ (λ q is. (is.passed, is.via, is.has)) entered n
        (route_to_last world.tree own.have_points own.touchings own.are_touchings first frame.state entered (MayEnter frame) n ahead) (start refl)

-- ---- what is left of a frame

abbrev pub left_of_cut : (world : World) (p : ℕ) (frame : Frame) (found : List Bool) (entered : ℕ) (cone mask : List Bool) (left : Option Frame) → ((n : ℕ) → IsInCone world p frame found entered n → IsIn cone n) → IsCutTo cone frame.mask mask →
    MatchOption left (HasUnseen mask found → ⊥) (λ next. next ≡ with_mask mask frame) → IsLeftOf world p frame found entered left
left_of_cut world p frame found entered cone mask left has cut left_is = record {
  mask = mask;
  same_length = cut.same_length;
  within = λ n is. ((cut.exactly n).0 is).0;
  keeps = λ n is in_cone. (cut.exactly n).1 (is, has n in_cone);
  left_is = left_is;
}

-- ---- a walk that goes on

-- through a portal, and finds the leaf that it enters, narrowed by its cone
module _ (world : World) (own : HasOwnPortals world) (p : ℕ) (frame : Frame) (number : ℕ) (row : List Bool) (q : Portal) (q_is : IsAt world.portals number q)
    (child : Frame) (in_child : (n : ℕ) → IsIn frame.mask n → IsWantedVia world p row number n → IsIn child.mask n)
    (step : StepsThrough frame.state q child.state) (within : q.to < length frame.met) (met_is : child.met ≡ set frame.met q.to true) (leaving : AreLeaving world.portals q.to child.untried)
    (wide : q.to < length row) (found : List Bool) (finds : FindsLast child.mask q.to row found)
    (left : Option Frame) (is_left : IsLeftOf world p child found q.to left) where
  met_gains : GainsOne q.to frame.met child.met
  met_gains = subst (GainsOne q.to frame.met) (sym met_is) (gains_one frame.met q.to within)

  abbrev narrowed : Frame
  narrowed = with_mask is_left.mask child

  -- a leaf that is ahead over leaves that the chain may enter stays so, and stays in the mask, when it is narrowed by the cone
  module _ (first : Portal) (first_is : IsAt world.portals p first) (n : ℕ) (in_it : IsIn child.mask n) (never : IsIn found n → ⊥) (ahead : IsAheadOver MeetsState world.tree first child.state q.to (MayEnter child) n) where
    kept : IsIn is_left.mask n
    kept = is_left.keeps n in_it (ahead_in_cone world own p first first_is child found q.to n in_it never ahead)

    still_ahead : IsAheadOver MeetsState world.tree first narrowed.state q.to (MayEnter narrowed) n
    still_ahead = ahead_over MeetsState world.tree first child.state q.to (MayEnter child) n ahead (MayEnter narrowed)
        (λ m j there number.
        let may = ahead.each_has m j there number in
        (may.0, is_left.keeps m may.1 (on_way_in_cone world own p first first_is child found q.to n in_it never ahead m j number (Contains-later ahead.here j ahead.rest there))))

    found_or_awaited : IsIn found n ⊎ (IsIn is_left.mask n × IsAwaited world first n narrowed)
    found_or_awaited = ⊎_elim
        (λ here. inl (subst (IsIn found) here (found_last child.mask q.to row found wide finds (subst (IsIn child.mask) (sym here) in_it))))
        (λ awaited. inr (kept, awaited))
        (reached_or_awaited world own first narrowed q.to n kept (all_leaving world.portals q.to child.untried leaving) still_ahead)

  -- a leaf that is next over the portal is found, or in what the cone leaves of the mask, and awaited there
  found_or_kept : (first : Portal) → IsAt world.portals p first → (n : ℕ) → IsIn frame.mask n → IsNextTo world.tree first frame n q → IsIn found n ⊎ (IsIn is_left.mask n × IsAwaited world first n narrowed)
  found_or_kept first first_is n in_mask next = ⊎_elim
      (λ is. inl is)
      (λ clear.
      let never = not_in_if_clear found n clear in
      let wanted = next_wanted world p frame number row q q_is first first_is n next (λ is. never (found_keeps child.mask q.to row found wide finds n is)) in
      let in_it = in_child n in_mask (wanted n (target_on_way world.tree first q n next.via)) in
      found_or_awaited first first_is n in_it never
      (ahead_with MeetsState world.tree first child.state q.to (LiesFartherOn world.tree next.via (MayEnter frame)) n (next.ahead child.state step) (MayEnter child)
      (λ m farther. (
        (λ again. ⊎_elim farther.other farther.has.0 ((met_gains m).0 again)),
        in_child m farther.has.1 (wanted m farther.on_way),
      ))))
      (in_or_clear found n)

  module _ (met_wide : length frame.met ≡ length (numbered_leaves world.tree)) (mask_wide : length child.mask ≡ length (numbered_leaves world.tree)) where
    narrowed_is : IsFrameOf world narrowed
    narrowed_is = record {
      untried_within = λ other there. slice_get_within world.portals other ((leaving.leave other).0 there).0 ((leaving.leave other).0 there).1;
      met_wide = ap length met_is ∙ length-set frame.met q.to true ∙ met_wide;
      mask_wide = is_left.same_length ∙ mask_wide;
    }

    looked_by_left : (left : Option Frame) → MatchOption left (HasUnseen is_left.mask found → ⊥) (λ next. next ≡ narrowed) → IsLookedThrough world p frame number row found left
    looked_by_left None none_new = record {
      same_length = found_long child.mask q.to row found wide finds;
      stays = found_keeps child.mask q.to row found wide finds;
      child_is = tt;
      none_missed = λ first other first_is at n in_mask next. ⊎_elim
          (λ is. inl is)
          (λ kept. ⊎_elim (λ is. inl is) (λ clear. absurd (none_new (n, kept.0, clear))) (in_or_clear found n))
          (found_or_kept first first_is n in_mask (subst (IsNextTo world.tree first frame n) (same_portal world.portals number other q at q_is) next));
    }
    looked_by_left (Some next_frame) is = record {
      same_length = found_long child.mask q.to row found wide finds;
      stays = found_keeps child.mask q.to row found wide finds;
      child_is = subst (IsFrameOf world) (sym is) narrowed_is;
      none_missed = λ first other first_is at n in_mask next. ⊎_elim
          (λ is_found. inl is_found)
          (λ kept. inr (subst (IsAwaited world first n) (sym is) kept.1))
          (found_or_kept first first_is n in_mask (subst (IsNextTo world.tree first frame n) (same_portal world.portals number other q at q_is) next));
    }

    pub looked_on_left : IsLookedThrough world p frame number row found left
    looked_on_left = looked_by_left left is_left.left_is

  -- ---- and stays open

  module _ (MayHave : ℕ → ℕ → Type 0) (within_may : (n : ℕ) → IsIn child.mask n → IsIn frame.mask n × MayHave n number) (same_mask_length : length child.mask ≡ length frame.mask) (ends : EndsChain world MayHave p (put_back number frame)) (new : IsIn frame.met q.to → ⊥) where
    abbrev child_ends : EndsChain world MayHave p child
    child_ends = step_ends world MayHave p (put_back number frame) ends number (Contains-first number frame.untried) q q_is child step new
        (all_leave world.portals q.to child.untried leaving) met_gains within_may
        (ap length met_is ∙ length-set frame.met q.to true) same_mask_length

    narrowed_ends : EndsChain world MayHave p narrowed
    narrowed_ends =
        let its = child_ends in
        record {
          first = its.first;
          first_is = its.first_is;
          last = its.last;
          before = its.before;
          open_chain = its.open_chain;
          later = its.later;
          numbers_are = its.numbers_are;
          each_may = λ n is. its.each_may n (is_left.within n is);
          met_is = its.met_is;
          untried_leave = its.untried_leave;
          met_wide = its.met_wide;
          mask_wide = is_left.same_length ∙ its.mask_wide;
        }

    chain_by_left : (left : Option Frame) → MatchOption left (HasUnseen is_left.mask found → ⊥) (λ next. next ≡ narrowed) → MatchOption left (Unit {0}) (EndsChain world MayHave p)
    chain_by_left None none_new = tt
    chain_by_left (Some next_frame) is = subst (EndsChain world MayHave p) (sym is) narrowed_ends

    fewer_by_left : (left : Option Frame) → MatchOption left (HasUnseen is_left.mask found → ⊥) (λ next. next ≡ narrowed) → MatchOption left (Unit {0}) (λ after. (length after.untried < length world.portals + 1) × (count_by not after.met < count_by not frame.met))
    fewer_by_left None none_new = tt
    fewer_by_left (Some next_frame) is = subst (λ (after : Frame). (length after.untried < length world.portals + 1) × (count_by not after.met < count_by not frame.met)) (sym is) (
      few_leaving world.portals q.to child.untried leaving,
      subst (λ (met : List Bool). count_by not met < count_by not frame.met) (sym met_is) (fewer_clear frame.met q.to within (clear_if_not_in frame.met q.to new)),
    )

    pub tried_on_left : IsTried world MayHave p frame number row found left
    tried_on_left = record {
      looked = looked_on_left ends.met_wide (same_mask_length ∙ ends.mask_wide);
      gained = λ n is. ⊎_elim
          (λ old. inl old)
          (λ last. inr (end_shown world MayHave p child child_ends n last.0 last.1))
          (found_only child.mask q.to row found wide finds n is);
      chain = chain_by_left left is_left.left_is;
      fewer = fewer_by_left left is_left.left_is;
    }
