-- The step by separators lets segments through, and narrows the source: so the bound over it is defined, lies within coarse
-- rows, and has all that is in sight.
use Rattle.std.proofs.Common.{List, ◌∷◌, Contains, Option, refl, sym, ap, subst}
use Rattle.std.specs.Prelude.{MatchOption}
use Rattle.qm_space.specs.Point.{Point}
use Rattle.qm_space.specs.Plane.{Plane, IsOn}
use Rattle.qm_space.specs.Line.{IsBetween}
use Rattle.qm_space.proofs.Planes.{flipped_in_front}
use Rattle.qm_convex.specs.Winding.{Winding, IsConvex, IsInRegion}
use Rattle.qm_convex.proofs.Central.{middle, middle_in_region}
use Rattle.qm_partition.specs.Tree.{Tree}
use Rattle.qm_contacts.specs.Meeting.{meetings}
use Rattle.qm_contacts.specs.Touching.{Touching, AreTouchings}
use Rattle.qm_contacts.specs.Portals.{Portal, portals_of}
use Rattle.qm_segments.specs.Segment.{Segment}
use Rattle.qm_segments.specs.GoesThrough.{GoesThrough}
use Rattle.qm_segments.specs.OpenChain.{IsOpenChain, alone, longer}
use Rattle.qm_segments.specs.Steps.{LetSegmentsThrough}
use Rattle.qm_segments.proofs.OpenChains.{NarrowsSource}
use Rattle.qm_segments.proofs.CoarseSight.{portal_convex, portal_on}
use Rattle.qm_separators.specs.ChainState.{ChainState, first_state, IsChainState}
use Rattle.qm_separators.specs.ChainStep.{StepsTo}
use Rattle.qm_separators.specs.Meets.{Meets}
use Rattle.qm_separators.specs.PortalSteps.{BeginsWith, StepsThrough, BlocksAt, LetsPass, MeetsState, AreConvexPortals}
use Rattle.qm_separators.proofs.StepLaw.{meets_next, not_blocked}
use Rattle.qm_separators.proofs.MayPassLaw.{may_pass}

-- the portals of a tree are so
pub are_convex : (tree : Tree) (touchings : List Touching) → AreTouchings tree.planes (meetings tree) touchings → AreConvexPortals (portals_of tree touchings)
are_convex tree touchings are q there = (portal_convex tree touchings are q there, λ x inside. portal_on tree touchings are q x there inside)

-- ---- the rules of a state stay

pub next_is_state : (state : ChainState) (target : Winding) (into : Plane) (next : ChainState) → IsChainState state → StepsTo state target into next → IsChainState next
next_is_state state target into next valid leads = record {
  source_convex = leads.source.convex;
  source_lies = λ x inside. subst (λ (h : Plane). IsOn h x) (sym leads.into_is) (valid.source_lies x ((leads.cut.near_is.points x).0 ((leads.source.points x).0 inside).0).0);
  pass_convex = subst (λ (pass : Option Winding). MatchOption pass (Unit {0}) IsConvex) (sym leads.pass_is) leads.narrowed.convex;
}

pub first_is_state : (p : Portal) → IsConvex p.winding → ((x : Point) → IsInRegion p.winding x → IsOn p.into x) → IsChainState (first_state p.winding p.into)
first_is_state p convex lies = record { source_convex = convex; source_lies = lies; pass_convex = tt }

pub open_chain_state : (portals : List Portal) (p : Portal) (chain : List Portal) (state : ChainState) → IsOpenChain BeginsWith StepsThrough portals p chain state → IsChainState state
open_chain_state portals p chain state (alone begun) = begun.valid
open_chain_state portals p chain state (longer {last = last} {q = q} {chain = rest} {state = old} is_open q_listed from new step) =
    next_is_state old q.winding q.into state (open_chain_state portals p (last ∷ rest) old is_open) step

module _ (portals : List Portal) (convex : AreConvexPortals portals) where
  pub begins_all : (p : Portal) → Contains portals p → (state : ChainState) × BeginsWith p state
  begins_all p listed = (first_state p.winding p.into, record { state_is = refl; valid = first_is_state p (convex p listed).0 (convex p listed).1 })

  -- ---- segments are let through

  pub lets_segments_through : LetSegmentsThrough BeginsWith StepsThrough BlocksAt portals MeetsState
  lets_segments_through = record {
    begun = λ s p state x listed at begun. (begun.valid, subst (Meets s x) (sym begun.state_is) (record { at = x; between = at.between; inside = at.inside; behind = at.behind; in_front = at.in_front; last = refl }));
    not_blocked = λ s q state x y met listed at after. not_blocked state q.winding q.into s x y met.0 (convex q listed).1 met.1 at.inside at.in_front after;
    gone_on = λ s q state next x y met listed at after step. (next_is_state state q.winding q.into next met.0 step, meets_next state q.winding q.into s x y met.0 (convex q listed).1 met.1 at.inside at.in_front after next step);
  }

  -- and the portals through which they go may be passed
  pub lets_pass : (state : ChainState) (s : Segment) (q : Portal) (x y : Point) → MeetsState s x state → Contains portals q → GoesThrough s q y → IsBetween y x s.to → LetsPass state q
  lets_pass state s q x y met listed at after = may_pass state q.winding q.into s x y met.0 (convex q listed).0 (convex q listed).1 met.1 at.inside at.in_front after

-- ---- the source is narrowed

pub narrows_source : (portals : List Portal) → NarrowsSource BeginsWith StepsThrough portals (λ state. state.source) (λ state. state.into)
narrows_source portals = record {
  begun = λ p state begun. (ap (λ (t : ChainState). t.into) begun.state_is, λ x inside. subst (λ (w : Winding). IsInRegion w x) (ap (λ (t : ChainState). t.source) begun.state_is) inside);
  kept = λ state next q leads. (leads.into_is, λ x inside. ((leads.cut.near_is.points x).0 ((leads.source.points x).0 inside).0).0);
  behind = λ state next q leads.
      let it = (leads.cut.near_is.points (middle leads.near)).0 (middle_in_region leads.near leads.cut.near_is.convex) in
      (middle leads.near, it.0, (flipped_in_front q.into (middle leads.near)).0 it.1);
  in_front = λ state next q leads.
      let it = (leads.cut.far_is.points (middle leads.far)).0 (middle_in_region leads.far leads.cut.far_is.convex) in
      (middle leads.far, it.0, it.1);
}
