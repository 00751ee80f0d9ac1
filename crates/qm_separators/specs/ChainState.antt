use Rattle.std.specs.Prelude.{Option, None, MatchOption}
use Rattle.qm_space.specs.Plane.{Plane}
use Rattle.qm_convex.specs.Winding.{Winding, IsConvex}
use Rattle.qm_convex.specs.Sides.{LiesIn}

-- where a chain of portals stands: what is left of the winding of its first portal, that portal's turned plane, and, once
-- the chain has a second portal, what is left of the winding of its last one
pub record ChainState : Type 0 where
  pub source : Winding
  pub into : Plane
  pub pass : Option Winding

-- a chain with one portal
abbrev pub first_state : Winding → Plane → ChainState
first_state winding into = record { source = winding; into = into; pass = None }

-- its windings are convex, and the source lies in its turned plane
pub record IsChainState (state : ChainState) : Type 0 where
  pub source_convex : IsConvex state.source
  pub source_lies : LiesIn state.source state.into
  pub pass_convex : MatchOption state.pass (Unit {0}) IsConvex
