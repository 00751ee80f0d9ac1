use Rattle.std.specs.Prelude.{◌≡◌, ◌⊎◌, ◌<◌, ℕ, Bool, List, All, length, Contains, Option, MatchOption}
use Rattle.qm_lists.specs.WorkList.{IsIn}
use Rattle.qm_contacts.specs.NumberedLeaves.{numbered_leaves}
use Rattle.qm_contacts.specs.Portals.{Portal}
use Rattle.qm_contacts.specs.World.{World}
use Rattle.qm_chains.specs.Shown.{IsAt}
use Rattle.qm_chains.specs.inner.Frame.{Frame, IsNextTo, IsAwaited}

-- What a walk looks for, whichever leaves these are, and whether or not its frames end open chains.

-- a leaf is found, or awaited at a frame
abbrev pub IsFoundOrAwaited : World → Portal → List Frame → List Bool → ℕ → Type 0
IsFoundOrAwaited world first frames row n = IsIn row n ⊎ ((frame : Frame) × Contains frames frame × IsAwaited world first n frame)

-- none of the leaves that are sought from a first portal, that of number p, is missed: each is found or awaited
abbrev pub NoneIsMissed : World → ℕ → (Portal → ℕ → Type 0) → List Frame → List Bool → Type 0
NoneIsMissed world p IsSought frames row = (first : Portal) → IsAt world.portals p first → (n : ℕ) → IsSought first n → IsFoundOrAwaited world first frames row n

-- what becomes of an awaited leaf for which the portal is next: it is found, or awaited where the walk has gone on
abbrev pub IsFoundOrAhead : World → Portal → Option Frame → List Bool → ℕ → Type 0
IsFoundOrAhead world first child row n = IsIn row n ⊎ MatchOption child ⊥ (IsAwaited world first n)

-- a frame of this world: portals that are to be tried have their numbers, and rows a place for each numbered leaf
pub record IsFrameOf (world : World) (frame : Frame) : Type 0 where
  pub untried_within : (number : ℕ) → Contains frame.untried number → number < length world.portals
  pub met_wide : length frame.met ≡ length (numbered_leaves world.tree)
  pub mask_wide : length frame.mask ≡ length (numbered_leaves world.tree)

-- a portal is looked through at a frame: leaves may be found, and where the walk goes on there is a frame for it
pub record IsLookedThrough (world : World) (p : ℕ) (frame : Frame) (number : ℕ) (old new : List Bool) (child : Option Frame) : Type 0 where
  pub same_length : length new ≡ length old
  pub stays : (n : ℕ) → IsIn old n → IsIn new n
  pub child_is : MatchOption child (Unit {0}) (IsFrameOf world)
  pub none_missed : (first q : Portal) → IsAt world.portals p first → IsAt world.portals number q → (n : ℕ) → IsIn frame.mask n → IsNextTo world.tree first frame n q → IsFoundOrAhead world first child new n

-- a search so far, in a flow from the portal of number p: frames of this world, and none of the leaves that are sought is missed
pub record IsSearch (world : World) (p : ℕ) (IsSought : Portal → ℕ → Type 0) (frames : List Frame) (row : List Bool) : Type 0 where
  pub wide : length row ≡ length (numbered_leaves world.tree)
  pub frames_are : All (IsFrameOf world) frames
  pub none_missed : NoneIsMissed world p IsSought frames row
