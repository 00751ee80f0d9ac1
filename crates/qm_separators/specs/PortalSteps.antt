use Rattle.std.specs.Prelude.{◌≡◌, ℕ, List, Contains}
use Rattle.qm_space.specs.Point.{Point}
use Rattle.qm_convex.specs.Winding.{IsConvex}
use Rattle.qm_convex.specs.Sides.{LiesIn}
use Rattle.qm_contacts.specs.Portals.{Portal}
use Rattle.qm_segments.specs.Segment.{Segment}
use Rattle.qm_segments.specs.OpenChain.{IsInBound}
use Rattle.qm_separators.specs.ChainState.{ChainState, first_state, IsChainState}
use Rattle.qm_separators.specs.ChainStep.{StepsTo, Blocks}
use Rattle.qm_separators.specs.MayPass.{MayPass}
use Rattle.qm_separators.specs.Meets.{Meets}

-- The step by separators as a step of chains of portals.

-- the state of the chain that has this portal alone, its polygon convex and in its turned plane
pub record BeginsWith (p : Portal) (state : ChainState) : Type 0 where
  pub state_is : state ≡ first_state p.winding p.into
  pub valid : IsChainState state

abbrev pub StepsThrough : ChainState → Portal → ChainState → Type 0
StepsThrough state q next = StepsTo state q.winding q.into next

abbrev pub BlocksAt : ChainState → Portal → Type 0
BlocksAt state q = Blocks state q.winding q.into

abbrev pub LetsPass : ChainState → Portal → Type 0
LetsPass state q = MayPass state q.winding q.into

-- a segment meets a state that keeps its rules
abbrev pub MeetsState : Segment → Point → ChainState → Type 0
MeetsState s x state = IsChainState state × Meets s x state

-- each portal's polygon is convex, and lies in its turned plane
abbrev pub AreConvexPortals : List Portal → Type 0
AreConvexPortals portals = (q : Portal) → Contains portals q → IsConvex q.winding × LiesIn q.winding q.into

-- the bound of a portal: the leaves that the last portals of open chains from it enter, by these steps
abbrev pub IsInChainBound : List Portal → Portal → ℕ → Type 0
IsInChainBound portals p n = IsInBound BeginsWith StepsThrough portals p n
