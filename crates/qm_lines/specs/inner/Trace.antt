use Rattle.std.specs.Prelude.{◌≡◌, ℕ, ◌<◌, pos, ◌<ℤ◌, List, [], ◌∷◌, ◌++◌, length, All, Contains}
use Rattle.std.specs.List.{AllZip}
use Rattle.qm_space.specs.Plane.{value}
use Rattle.qm_contacts.specs.NumberedLeaves.{numbered_leaves}
use Rattle.qm_contacts.specs.Portals.{Portal}
use Rattle.qm_contacts.specs.World.{World}
use Rattle.qm_segments.specs.Segment.{Segment}
use Rattle.qm_segments.specs.GoesThrough.{GoesThrough}
use Rattle.qm_segments.specs.OpenChain.{leaves_met, IsOpenChain}
use Rattle.qm_separators.specs.ChainState.{ChainState}
use Rattle.qm_separators.specs.PortalSteps.{BeginsWith, StepsThrough, MeetsState}
use Rattle.qm_chains.specs.Shown.{IsAt}
use Rattle.qm_lines.specs.inner.Crossing.{Crossing, crossing_point, value_where, CrossesAt}
use Rattle.qm_lines.specs.declared.trace.Trace.{Trace}

-- How far a line was followed from the portal of number p: an open chain ends here, whose portals the line has passed and
-- whose leaves it has met, and the line has met its state where it goes through the last portal.
pub record IsTrace (world : World) (p : ℕ) (s : Segment) (trace : Trace) : Type 0 where
  pub first : Portal
  pub first_is : IsAt world.portals p first
  pub last : Portal
  pub before : List Portal
  pub state : ChainState
  pub open_chain : IsOpenChain BeginsWith StepsThrough world.portals first (last ∷ before) state
  pub meets : MeetsState s (crossing_point s last.into) state
  pub goes_through : GoesThrough s last (crossing_point s last.into)
  pub begin_is : trace.last.at_begin ≡ value last.into s.from
  pub end_is : trace.last.at_end ≡ value last.into s.to
  pub here : last.to ≡ trace.leaf
  pub later : List ℕ
  pub numbers_are : AllZip (IsAt world.portals) (later ++ p ∷ []) (last ∷ before)
  pub all_passed : (number : ℕ) → Contains (later ++ p ∷ []) number → Contains trace.passed.items number
  pub all_met : (n : ℕ) → Contains (leaves_met first (last ∷ before)) n → Contains trace.met.items n

-- its portals and the leaf in which it is have numbers of the world
pub record AreInRange (world : World) (trace : Trace) : Type 0 where
  pub portals : All (λ number. number < length world.portals) trace.passed.items
  pub leaf : trace.leaf < length (numbered_leaves world.tree)

-- the portal of this number is next on the line: the line goes through it further on, out of the leaf in which it is, and
-- into one in which it was not
pub record IsOnward (world : World) (s : Segment) (trace : Trace) (number : ℕ) (crossing : Crossing) : Type 0 where
  pub crosses : CrossesAt world.portals number s crossing
  pub from_here : crosses.portal.from ≡ trace.leaf
  pub further : value_where trace.last s crosses.portal.into <ℤ pos 0
  pub new : Contains trace.met.items crosses.portal.to → ⊥

-- the trace after the portal of this number was passed
pub record HasEntered (world : World) (number : ℕ) (crossing : Crossing) (old new : Trace) : Type 0 where
  pub portal : Portal
  pub portal_is : IsAt world.portals number portal
  pub passed : new.passed.items ≡ old.passed.items ++ number ∷ []
  pub met : new.met.items ≡ old.met.items ++ portal.to ∷ []
  pub leaf : new.leaf ≡ portal.to
  pub within : new.leaf < length (numbered_leaves world.tree)
  pub last : new.last ≡ crossing
