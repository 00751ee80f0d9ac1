-- What is asked of steps, for the step by separators: the bound over it lies in the coarse row and has all that is in sight,
-- and a leaf that is seen stays ahead.
use Rattle.std.proofs.Common.{◌≡◌, ◌≢◌, ℕ, List, [], ◌∷◌, map, Contains, ◌⊎◌}
use Rattle.qm_lists.proofs.EachPair.{EachPair}
use Rattle.qm_space.specs.Point.{Point}
use Rattle.qm_partition.specs.Tree.{Tree}
use Rattle.qm_partition.specs.Ways.{HasPoints}
use Rattle.qm_contacts.specs.Meeting.{meetings}
use Rattle.qm_contacts.specs.Touching.{Touching, AreTouchings}
use Rattle.qm_contacts.specs.Portals.{Portal, portals_of}
use Rattle.qm_coarse_rows.specs.CoarseRow.{IsInCoarseRow}
use Rattle.qm_segments.specs.Segment.{Segment}
use Rattle.qm_segments.specs.GoesThrough.{GoesThrough}
use Rattle.qm_segments.specs.CrossesWay.{CrossesWay}
use Rattle.qm_segments.specs.LeafNumber.{IsNumberOf}
use Rattle.qm_segments.specs.Sight.{IsInSight}
use Rattle.qm_segments.specs.SeenVia.{IsSeenVia}
use Rattle.qm_segments.specs.Ahead.{IsAheadOver, IsAhead}
use Rattle.qm_segments.specs.Route.{Route}
use Rattle.qm_segments.specs.Steps.{LetSegmentsThrough, LeadOnOrBlock}
use Rattle.qm_segments.proofs.OpenChains.{narrowed_bound_in_coarse, bound_has_sight}
use Rattle.qm_segments.proofs.AheadLaws.{start_ahead, next_ahead, route_ahead, last_place, last_listed, IsNext, IsOnRoute}
use Rattle.qm_segments.proofs.ViaLaws.{pair, IsPair}
use Rattle.qm_segments.proofs.CrossedWays.{crossed_way_in_bound}
use Rattle.qm_separators.specs.ChainState.{ChainState}
use Rattle.qm_separators.specs.PortalSteps.{BeginsWith, StepsThrough, BlocksAt, LetsPass, MeetsState, IsInChainBound}
use Rattle.qm_separators.proofs.PortalStepLaws.{are_convex, lets_segments_through, lets_pass, narrows_source}
use Rattle.qm_separators.proofs.StepsLead.{lead_on_or_block}

module _ (tree : Tree) (have : HasPoints tree) (touchings : List Touching) (are : AreTouchings tree.planes (meetings tree) touchings) where
  pub lets : LetSegmentsThrough BeginsWith StepsThrough BlocksAt (portals_of tree touchings) MeetsState
  lets = lets_segments_through (portals_of tree touchings) (are_convex tree touchings are)

  pub lead : LeadOnOrBlock BeginsWith StepsThrough BlocksAt (portals_of tree touchings)
  lead = lead_on_or_block (portals_of tree touchings) (are_convex tree touchings are)

  -- ---- the bound

  pub bound_in_coarse : (p : Portal) (n : ℕ) → Contains (portals_of tree touchings) p → IsInChainBound (portals_of tree touchings) p n → IsInCoarseRow (portals_of tree touchings) p n
  bound_in_coarse p n listed is = narrowed_bound_in_coarse BeginsWith StepsThrough (portals_of tree touchings) (λ state. state.source) (λ state. state.into) (narrows_source (portals_of tree touchings)) p
      (are_convex tree touchings are p listed).0 (λ q there. (are_convex tree touchings are q there).0) n is

  pub sight_in_bound : (p : Portal) (n : ℕ) → Contains (portals_of tree touchings) p → IsInSight tree p n → IsInChainBound (portals_of tree touchings) p n
  sight_in_bound p n listed sight = bound_has_sight BeginsWith StepsThrough BlocksAt tree touchings MeetsState lets lead have are p n listed sight

  -- a segment through the portals of a way that enters no leaf twice has its end in the bound
  pub crossed_in_bound : (s : Segment) (p : Portal) (x : Point) (e : ℕ) (chain : List Portal) → Contains (portals_of tree touchings) p → GoesThrough s p x → CrossesWay (portals_of tree touchings) s p.to chain e → EachPair (λ a b. a ≢ b) (p.from ∷ p.to ∷ map (λ q. q.to) chain) → IsInChainBound (portals_of tree touchings) p e
  crossed_in_bound s p x e chain listed at way once = crossed_way_in_bound tree touchings are BeginsWith StepsThrough BlocksAt MeetsState lets lead s p x e chain listed at way once

  -- ---- what is ahead

  pub ahead_at_start : (p : Portal) (k : ℕ) (state : ChainState) → Contains (portals_of tree touchings) p → BeginsWith p state → IsInSight tree p k → IsAhead MeetsState tree p state p.to (p.to ∷ p.from ∷ []) k
  ahead_at_start p k state listed begun sight = start_ahead tree have touchings are BeginsWith StepsThrough BlocksAt MeetsState lets p listed k state begun sight

  module _ (p : Portal) (state : ChainState) (n : ℕ) (Has : ℕ → Type 0) (k : ℕ) (ahead : IsAheadOver MeetsState tree p state n Has k) where
    pub reached_or_next : (n ≡ k) ⊎ IsNext tree have touchings are BeginsWith StepsThrough BlocksAt MeetsState lets p state n Has k
    reached_or_next = next_ahead tree have touchings are BeginsWith StepsThrough BlocksAt MeetsState lets p state n Has k ahead

    -- to each leaf on the way, over portals that the state lets pass
    pub route_on : (m j : ℕ) → IsNumberOf tree m j → Contains (ahead.here ∷ ahead.rest) j →
        Route (portals_of tree touchings) (IsOnRoute tree have touchings are BeginsWith StepsThrough BlocksAt MeetsState lets p state n Has k LetsPass (lets_pass (portals_of tree touchings) (are_convex tree touchings are) state)) n m
    route_on = route_ahead tree have touchings are BeginsWith StepsThrough BlocksAt MeetsState lets p state n Has k LetsPass (lets_pass (portals_of tree touchings) (are_convex tree touchings are) state) ahead

    pub route_to_last : Route (portals_of tree touchings) (IsOnRoute tree have touchings are BeginsWith StepsThrough BlocksAt MeetsState lets p state n Has k LetsPass (lets_pass (portals_of tree touchings) (are_convex tree touchings are) state)) n k
    route_to_last = route_on k (last_place MeetsState tree p state n Has k ahead) ahead.sight.last_is (last_listed MeetsState tree p state n Has k ahead)

  -- the step from a portal straight to one via which a leaf is seen does not block, and after it the leaf is ahead
  pub straight_on : (p e : Portal) (state : ChainState) (k : ℕ) → Contains (portals_of tree touchings) p → Contains (portals_of tree touchings) e → BeginsWith p state → (via : IsSeenVia tree p e k) → IsPair tree have touchings are BeginsWith StepsThrough BlocksAt MeetsState lets p e state k via
  straight_on p e state k p_listed e_listed begun via = pair tree have touchings are BeginsWith StepsThrough BlocksAt MeetsState lets p e p_listed e_listed state begun k via
