-- How a chain goes on towards a leaf that is ahead, with the records of its clauses.
use Rattle.std.proofs.Common.{◌≡◌, ℕ, List, [], ◌∷◌, Contains, ◌⊎◌, inl, inr, ⊎_elim}
use Rattle.qm_lists.proofs.Elements.{Contains-cons_cases}
use Rattle.qm_partition.specs.Tree.{Tree}
use Rattle.qm_partition.specs.Ways.{HasPoints}
use Rattle.qm_contacts.specs.Meeting.{meetings}
use Rattle.qm_contacts.specs.Touching.{Touching, AreTouchings}
use Rattle.qm_contacts.specs.Portals.{Portal, portals_of}
use Rattle.qm_segments.specs.Ahead.{IsAheadOver, IsAhead}
use Rattle.qm_segments.specs.Route.{Route, arrived, over}
use Rattle.qm_segments.specs.SeenVia.{IsSeenVia, LiesFartherOn}
use Rattle.qm_segments.proofs.AheadLaws.{ahead_with}
use Rattle.qm_separators.specs.ChainState.{ChainState}
use Rattle.qm_separators.specs.PortalSteps.{BeginsWith, MeetsState}
use Rattle.qm_separators.proofs.ChainLaws.{reached_or_next, route_to_last, straight_on}
use Rattle.qm_sight.specs.WaysOn.{IsLedOn, IsOnWay, IsLedStraight}

-- a way over portals with one property is one over portals with another that they have too
with_another : (portals : List Portal) (Has Having : Portal → Type 0) → ((q : Portal) → Has q → Having q) → (n e : ℕ) → Route portals Has n e → Route portals Having n e
with_another portals Has Having too n e arrived = arrived
with_another portals Has Having too n e (over {q = q} listed from has rest) = over listed from (too q has) (with_another portals Has Having too q.to e rest)

module _ (tree : Tree) (have : HasPoints tree) (touchings : List Touching) (are : AreTouchings tree.planes (meetings tree) touchings) where
  module _ (p : Portal) (state : ChainState) (n : ℕ) (met_before : List ℕ) (k : ℕ) (ahead : IsAhead MeetsState tree p state n met_before k) where
    abbrev never_met : ℕ → Type 0
    never_met m = Contains met_before m → ⊥

    after_step : (q : Portal) (after : ChainState) (via : IsSeenVia tree p q k) → IsAheadOver MeetsState tree p after q.to (LiesFartherOn tree via never_met) k → IsAhead MeetsState tree p after q.to (q.to ∷ met_before) k
    after_step q after via its = ahead_with MeetsState tree p after q.to (LiesFartherOn tree via never_met) k its (λ m. Contains (q.to ∷ met_before) m → ⊥)
        (λ m farther in_met. ⊎_elim farther.other farther.has (Contains-cons_cases q.to m met_before in_met))

    pub led_on : (n ≡ k) ⊎ IsLedOn tree (portals_of tree touchings) p state n met_before k
    led_on = ⊎_elim inl
        (λ next. inr (record { portal = next.portal; listed = next.listed; from = next.from; new = next.has; via = next.via; not_blocked = next.not_blocked; ahead = λ after step. after_step next.portal after _ (next.ahead after step) }))
        (reached_or_next tree have touchings are p state n never_met k ahead)

    pub way_on : Route (portals_of tree touchings) (IsOnWay tree p state met_before k) n k
    way_on = with_another (portals_of tree touchings) _ (IsOnWay tree p state met_before k)
        (λ q is. record { passed = is.passed; via = is.via; new = is.has })
        n k (route_to_last tree have touchings are p state n never_met k ahead)

  pub led_straight : (p q : Portal) (state : ChainState) (k : ℕ) → Contains (portals_of tree touchings) p → Contains (portals_of tree touchings) q → BeginsWith p state → IsSeenVia tree p q k → IsLedStraight tree p q state k
  led_straight p q state k p_listed q_listed begun via =
      let pair = straight_on tree have touchings are p q state k p_listed q_listed begun via in
      record {
        not_blocked = pair.not_blocked;
        ahead = λ next step. ahead_with MeetsState tree p next q.to (LiesFartherOn tree via (λ m. Contains (q.from ∷ p.to ∷ p.from ∷ []) m → ⊥)) k (pair.ahead next step) (λ m. Contains (q.to ∷ q.from ∷ p.to ∷ p.from ∷ []) m → ⊥)
            (λ m farther in_met. ⊎_elim farther.other farther.has (Contains-cons_cases q.to m (q.from ∷ p.to ∷ p.from ∷ []) in_met));
      }
