-- A leaf in sight is found or awaited: at the start, and wherever it is ahead of a chain.
use Rattle.std.proofs.Common.{◌≡◌, ◌⊎◌, inl, inr, ⊎_elim, ◌↔◌, ℕ, List, [], ◌∷◌, Contains, Some, sym, ap, ◌∙◌, subst, arith}
use Rattle.std.proofs.lemmas.Option.{slice_get-get_or}
use Rattle.qm_lists.specs.WorkList.{IsIn}
use Rattle.qm_lists.proofs.Elements.{Contains-at, Contains-first, Contains-later, Contains-cons_cases}
use Rattle.qm_contacts.specs.Portals.{Portal, portals_of}
use Rattle.qm_contacts.specs.World.{World}
use Rattle.qm_space.specs.Point.{Point}
use Rattle.qm_space.specs.Line.{IsBetween}
use Rattle.qm_segments.specs.Segment.{Segment}
use Rattle.qm_segments.specs.GoesThrough.{GoesThrough}
use Rattle.qm_segments.specs.Sight.{IsInSight}
use Rattle.qm_segments.specs.Ahead.{IsAheadOver}
use Rattle.qm_segments.specs.Steps.{LetSegmentsThrough}
use Rattle.qm_segments.proofs.AheadLaws.{IsNext, next_ahead, ahead_over, leaf_ahead_in_sight}
use Rattle.qm_separators.specs.ChainState.{ChainState}
use Rattle.qm_separators.specs.PortalSteps.{BeginsWith, StepsThrough, MeetsState}
use Rattle.qm_separators.proofs.PortalStepLaws.{are_convex, lets_pass}
use Rattle.qm_separators.proofs.ChainLaws.{lets, ahead_at_start}
use Rattle.qm_contacts.specs.OwnPortals.{HasOwnPortals}
use Rattle.qm_chains.specs.Shown.{IsAt}
use Rattle.qm_chains.specs.inner.Frame.{Frame, StopsAt, not_passed, blocked, MayEnter, IsAwaited}

-- all portals that leave the leaf are among these numbers
abbrev pub HasAllLeaving : List Portal → ℕ → List ℕ → Type 0
HasAllLeaving portals leaf numbers = (number : ℕ) (q : Portal) → IsAt portals number q → q.from ≡ leaf → Contains numbers number

-- a listed portal has a number
pub number_of_listed : (portals : List Portal) (q : Portal) → Contains portals q → (number : ℕ) × IsAt portals number q
number_of_listed portals q listed = (listed.0, slice_get-get_or portals listed.0 q listed.1 ∙ ap Some listed.2)

module _ (world : World) (own : HasOwnPortals world) (first : Portal) where
  listed : (q : Portal) → Contains (portals_of world.tree own.touchings) q → Contains world.portals q
  listed q there = subst (λ (all : List Portal). Contains all q) (sym own.portals_are) there

  listed_own : (q : Portal) → Contains world.portals q → Contains (portals_of world.tree own.touchings) q
  listed_own q there = subst (λ (all : List Portal). Contains all q) own.portals_are there

  -- no chain stops before a portal that a segment goes through which has met its state
  none_stops : LetSegmentsThrough BeginsWith StepsThrough StopsAt (portals_of world.tree own.touchings) MeetsState
  none_stops =
      let its = lets world.tree own.have_points own.touchings own.are_touchings in
      record {
        begun = its.begun;
        not_blocked = λ s q state x y met among through on stops. by s q state x y met among through on stops;
        gone_on = its.gone_on;
      }
    where
      by : (s : Segment) (q : Portal) (state : ChainState) (x y : Point) → MeetsState s x state → Contains (portals_of world.tree own.touchings) q → GoesThrough s q y → IsBetween y x s.to → StopsAt state q → ⊥
      by s q state x y met among through on (not_passed never) = never (lets_pass (portals_of world.tree own.touchings) (are_convex world.tree own.touchings own.are_touchings) state s q x y met among through on)
      by s q state x y met among through on (blocked is) = (lets world.tree own.have_points own.touchings own.are_touchings).not_blocked s q state x y met among through on is

  module _ (frame : Frame) (leaf n : ℕ) (in_mask : IsIn frame.mask n) (leaving : HasAllLeaving world.portals leaf frame.untried) where
    awaited : IsNext world.tree own.have_points own.touchings own.are_touchings BeginsWith StepsThrough StopsAt MeetsState none_stops first frame.state leaf (MayEnter frame) n → IsAwaited world first n frame
    awaited next =
        let at = number_of_listed world.portals next.portal (listed next.portal next.listed) in
        record {
          in_mask = in_mask;
          number = at.0;
          untried = leaving at.0 next.portal at.1 next.from;
          portal = next.portal;
          portal_is = at.1;
          next = record { may_enter = next.has; via = next.via; not_stopped = next.not_blocked; ahead = next.ahead };
        }

    -- it is the leaf that was entered last, or awaited
    pub reached_or_awaited : IsAheadOver MeetsState world.tree first frame.state leaf (MayEnter frame) n → (leaf ≡ n) ⊎ IsAwaited world first n frame
    reached_or_awaited ahead = ⊎_elim (λ here. inl here) (λ next. inr (awaited next))
        (next_ahead world.tree own.have_points own.touchings own.are_touchings BeginsWith StepsThrough StopsAt MeetsState none_stops first frame.state leaf (MayEnter frame) n ahead)

  -- ---- at the start, where the mask has all that is in sight

  module _ (p : ℕ) (frame : Frame) (first_is : IsAt world.portals p first) (begun : BeginsWith first frame.state) (met_is : (m : ℕ) → IsIn frame.met m ↔ Contains (first.from ∷ first.to ∷ []) m)
      (leaving : HasAllLeaving world.portals first.to frame.untried) (sees : (m : ℕ) → IsInSight world.tree first m → IsIn frame.mask m) where
    swapped : (a b m : ℕ) → Contains (a ∷ b ∷ []) m → Contains (b ∷ a ∷ []) m
    swapped a b m there = ⊎_elim
        (λ is_a. subst (Contains (b ∷ a ∷ [])) is_a (Contains-later b a (a ∷ []) (Contains-first a [])))
        (λ later. ⊎_elim
        (λ is_b. subst (Contains (b ∷ a ∷ [])) is_b (Contains-first b (a ∷ [])))
        (λ none. let range = none.1 in absurd (omega arith))
        (Contains-cons_cases b m [] later))
        (Contains-cons_cases a m (b ∷ []) there)

    pub first_awaited : (n : ℕ) → IsInSight world.tree first n → (first.to ≡ n) ⊎ IsAwaited world first n frame
    first_awaited n sight =
        let ahead = ahead_at_start world.tree own.have_points own.touchings own.are_touchings first n frame.state (listed_own first (Contains-at world.portals p first first_is)) begun sight in
        reached_or_awaited frame first.to n (sees n sight) leaving
        (ahead_over MeetsState world.tree first frame.state first.to (λ m. Contains (first.to ∷ first.from ∷ []) m → ⊥) n ahead (MayEnter frame)
        (λ m j there number. (
          (λ is. ahead.each_has m j there number (swapped first.from first.to m ((met_is m).0 is))),
          sees m (leaf_ahead_in_sight MeetsState world.tree first frame.state first.to (λ m. Contains (first.to ∷ first.from ∷ []) m → ⊥) n ahead m j there number),
        )))
