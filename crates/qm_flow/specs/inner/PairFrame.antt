use Rattle.std.specs.Prelude.{◌≡◌, ℕ, Bool, List, [], ◌∷◌, length, Contains}
use Rattle.qm_lists.specs.WorkList.{IsIn}
use Rattle.qm_contacts.specs.NumberedLeaves.{numbered_leaves}
use Rattle.qm_contacts.specs.Portals.{Portal}
use Rattle.qm_contacts.specs.World.{World}
use Rattle.qm_separators.specs.ChainState.{ChainState}
use Rattle.qm_chains.specs.Shown.{IsAt}
use Rattle.qm_chains.specs.inner.Frame.{Frame}
use Rattle.qm_chains.specs.inner.Narrowing.{IsNarrowed}
use Rattle.qm_chains.specs.inner.OwnRows.{MustHave, CanHave}
use Rattle.qm_chains.specs.inner.Pairs.{Pairs}

-- the frame of the chain with both portals of a pair, in this state: it has met the leaves that they leave and enter, and it may
-- show what may be in sight of the first portal, narrowed by the row of the other one
pub record IsPairFrame (world : World) (ceiling : List Bool) (pairs : Pairs) (state : ChainState) (number : ℕ) (frame : Frame) : Type 0 where
  pub state_is : frame.state ≡ state
  pub met_wide : length frame.met ≡ length (numbered_leaves world.tree)
  pub met_is : (first q : Portal) → IsAt world.portals pairs.first first → IsAt world.portals number q → (m : ℕ) → IsIn frame.met m → Contains (q.to ∷ q.from ∷ first.to ∷ first.from ∷ []) m
  pub narrowed : IsNarrowed (MustHave world pairs.own number) (CanHave ceiling pairs.own number) pairs.seen frame.mask
