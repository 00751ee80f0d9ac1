use Rattle.std.specs.Prelude.{List, Contains, ◌⊎◌}
use Rattle.qm_space.specs.Point.{Point}
use Rattle.qm_space.specs.Line.{IsBetween}
use Rattle.qm_contacts.specs.Portals.{Portal}
use Rattle.qm_segments.specs.Segment.{Segment}
use Rattle.qm_segments.specs.GoesThrough.{GoesThrough}
use Rattle.qm_segments.specs.OpenChain.{IsOpenChain}

-- What a notion of a step has to do with segments. It says in which states a chain begins with a portal, to which states it
-- goes on from a state through a portal, and where that step blocks; and which segments meet the windings of a state, the
-- last of them at which point.

-- no step takes a segment away that goes on through portals: one that goes through a portal meets the states in which a
-- chain begins with it; and where one has met a state and goes through a portal further on, the step there does not block,
-- and it meets the states to which that leads
pub record LetSegmentsThrough {State : Type 0} (begins : Portal → State → Type 0) (goes : State → Portal → State → Type 0) (blocks : State → Portal → Type 0) (portals : List Portal) (meets : Segment → Point → State → Type 0) : Type 0 where
  pub begun : (s : Segment) (p : Portal) (state : State) (x : Point) →
      Contains portals p → GoesThrough s p x → begins p state → meets s x state
  pub not_blocked : (s : Segment) (q : Portal) (state : State) (x y : Point) →
      meets s x state → Contains portals q → GoesThrough s q y → IsBetween y x s.to → blocks state q → ⊥
  pub gone_on : (s : Segment) (q : Portal) (state next : State) (x y : Point) →
      meets s x state → Contains portals q → GoesThrough s q y → IsBetween y x s.to → goes state q next → meets s y next

-- a chain can begin with each portal, and each step from the state to which an open chain has led leads on or blocks
pub record LeadOnOrBlock {State : Type 0} (begins : Portal → State → Type 0) (goes : State → Portal → State → Type 0) (blocks : State → Portal → Type 0) (portals : List Portal) : Type 0 where
  pub begin_all : (p : Portal) → Contains portals p → (state : State) × begins p state
  pub go_on : (p : Portal) (chain : List Portal) (state : State) (q : Portal) →
      IsOpenChain begins goes portals p chain state → Contains portals q → ((next : State) × goes state q next) ⊎ blocks state q
