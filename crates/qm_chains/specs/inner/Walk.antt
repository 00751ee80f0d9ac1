use Rattle.std.specs.Prelude.{◌≡◌, ◌⊎◌, ℕ, ◌+◌, ◌*◌, ◌^◌, ◌<◌, Bool, not, List, All, length, Option, MatchOption}
use Rattle.std.specs.List.{count_by}
use Rattle.qm_lists.specs.WorkList.{IsIn}
use Rattle.qm_contacts.specs.NumberedLeaves.{numbered_leaves}
use Rattle.qm_contacts.specs.Portals.{Portal}
use Rattle.qm_contacts.specs.World.{World}
use Rattle.qm_segments.specs.Sight.{IsInSight}
use Rattle.qm_chains.specs.Shown.{IsAt, IsShown}
use Rattle.qm_chains.specs.inner.Frame.{Frame, EndsChain, IsAwaited}
use Rattle.qm_chains.specs.inner.Search.{NoneIsMissed, IsLookedThrough}

-- A walk of open chains from one portal, frame by frame. Chains may be left out that show no leaf in sight that is not found.

-- so far: each frame ends an open chain, what is found is shown by one, and all that is in sight is found or awaited
pub record IsWalk (world : World) (MayHave : ℕ → ℕ → Type 0) (p : ℕ) (frames : List Frame) (row : List Bool) : Type 0 where
  pub wide : length row ≡ length (numbered_leaves world.tree)
  pub chains : All (EndsChain world MayHave p) frames
  pub shown : (n : ℕ) → IsIn row n → IsShown world.portals (MayHave n) p n
  pub none_missed : NoneIsMissed world p (IsInSight world.tree) frames row

-- how much is left to do at a frame: each portal still to be tried may lead to a frame with one leaf fewer to meet
abbrev pub frame_weight : World → Frame → ℕ
frame_weight world frame = (1 + length frame.untried) * (length world.portals + 2) ^ count_by not frame.met

-- rows of a frame, and the one of what is found, have a place for each numbered leaf
pub record AreWide (world : World) (frame : Frame) (row : List Bool) : Type 0 where
  pub met : length frame.met ≡ length (numbered_leaves world.tree)
  pub mask : length frame.mask ≡ length (numbered_leaves world.tree)
  pub found : length row ≡ length (numbered_leaves world.tree)

-- the frame of the chain with one portal, and what is found there: its mask has all that is in sight of the portal
pub record IsBegun (world : World) (MayHave : ℕ → ℕ → Type 0) (p : ℕ) (frame : Frame) (row : List Bool) : Type 0 where
  pub sees : (first : Portal) → IsAt world.portals p first → (n : ℕ) → IsInSight world.tree first n → IsIn frame.mask n
  pub wide : length row ≡ length (numbered_leaves world.tree)
  pub chain : EndsChain world MayHave p frame
  pub shown : (n : ℕ) → IsIn row n → IsShown world.portals (MayHave n) p n
  pub none_missed : (first : Portal) → IsAt world.portals p first → (n : ℕ) → IsInSight world.tree first n → IsIn row n ⊎ IsAwaited world first n frame

-- a portal is tried at a frame: it is looked through, and where the chain goes on it stays open; what is found is shown
pub record IsTried (world : World) (MayHave : ℕ → ℕ → Type 0) (p : ℕ) (frame : Frame) (number : ℕ) (old new : List Bool) (child : Option Frame) : Type 0 where
  pub looked : IsLookedThrough world p frame number old new child
  pub gained : (n : ℕ) → IsIn new n → IsIn old n ⊎ IsShown world.portals (MayHave n) p n
  pub chain : MatchOption child (Unit {0}) (EndsChain world MayHave p)
  pub fewer : MatchOption child (Unit {0}) (λ after. (length after.untried < length world.portals + 1) × (count_by not after.met < count_by not frame.met))
