use Rattle.std.specs.Prelude.{◌≡◌, ◌<◌, ℕ, true, false, length, replicate, slice_set}
use Rattle.qm_contacts.specs.NumberedLeaves.{numbered_leaves}
use Rattle.qm_contacts.specs.Portals.{Portal}
use Rattle.qm_contacts.specs.World.{World, AreLeaving}
use Rattle.qm_separators.specs.ChainState.{first_state}
use Rattle.qm_chains.specs.Shown.{IsAt}
use Rattle.qm_chains.specs.inner.Frame.{Frame}

-- the frame of the chain with the portal of number p alone, with any mask that has a place for each leaf: it has met the two
-- leaves of that portal, and is to go on by the portals that leave the one which it enters
pub record IsFirstFrame (world : World) (p : ℕ) (frame : Frame) : Type 0 where
  pub first : Portal
  pub first_is : IsAt world.portals p first
  pub from_within : first.from < length (numbered_leaves world.tree)
  pub to_within : first.to < length (numbered_leaves world.tree)
  pub state_is : frame.state ≡ first_state first.winding first.into
  pub met_is : frame.met ≡ slice_set (slice_set (replicate (length (numbered_leaves world.tree)) false) first.from true) first.to true
  pub leaving : AreLeaving world.portals first.to frame.untried
  pub mask_wide : length frame.mask ≡ length (numbered_leaves world.tree)
