use Rattle.std.specs.Prelude.{◌≡◌, ◌⊎◌, ℕ, ◌+◌, Bool, not, List, length, Contains, Option, MatchOption}
use Rattle.std.specs.List.{count_by}
use Rattle.qm_lists.specs.Unseen.{HasUnseen}
use Rattle.qm_lists.specs.Reach.{Reach}
use Rattle.qm_lists.specs.WorkList.{IsIn}
use Rattle.qm_contacts.specs.NumberedLeaves.{numbered_leaves}
use Rattle.qm_contacts.specs.Portals.{Portal}
use Rattle.qm_contacts.specs.World.{World}
use Rattle.qm_separators.specs.PortalSteps.{LetsPass}
use Rattle.qm_chains.specs.Shown.{IsAt}
use Rattle.qm_chains.specs.inner.Frame.{Frame, MayEnter}
use Rattle.qm_chains.specs.inner.Wanted.{IsWanted}

-- The cone of a frame, in a flow from the portal of number p: the leaves that a chain may still come to from where it ends.

-- the portal q may lead on from a frame: the state lets it pass, the chain may enter the leaf that it enters, and some leaf is
-- wanted via it that the frame may still show, and that was not found
pub record LeadsOn (world : World) (p : ℕ) (frame : Frame) (found : List Bool) (q : Portal) : Type 0 where
  pub passed : LetsPass frame.state q
  pub may_enter : MayEnter frame q.to
  pub leaf : ℕ
  pub in_mask : IsIn frame.mask leaf
  pub not_found : IsIn found leaf → ⊥
  pub wanted : IsWanted world p found q leaf

-- one of the portals of these numbers leads on into the leaf
pub record LeadsInto (world : World) (p : ℕ) (frame : Frame) (found : List Bool) (numbers : List ℕ) (to : ℕ) : Type 0 where
  pub number : ℕ
  pub among : Contains numbers number
  pub portal : Portal
  pub portal_is : IsAt world.portals number portal
  pub leads : LeadsOn world p frame found portal
  pub to_is : portal.to ≡ to

-- some portal leads on from a leaf into another
pub record LeadsFrom (world : World) (p : ℕ) (frame : Frame) (found : List Bool) (from to : ℕ) : Type 0 where
  pub portal : Portal
  pub listed : Contains world.portals portal
  pub from_is : portal.from ≡ from
  pub to_is : portal.to ≡ to
  pub leads : LeadsOn world p frame found portal

-- a leaf is in the cone of a frame whose chain has entered a leaf: it is that leaf, or portals lead on from there to it
abbrev pub IsInCone : World → ℕ → Frame → List Bool → ℕ → ℕ → Type 0
IsInCone world p frame found entered n = Reach (λ m. entered ≡ m) (LeadsFrom world p frame found) n

-- the same frame with another mask
abbrev pub with_mask : List Bool → Frame → Frame
with_mask mask frame = record { state = frame.state; untried = frame.untried; met = frame.met; mask = mask }

-- what is left of a frame when its mask was narrowed by the cone: a mask that keeps each leaf of the cone, and no frame where
-- nothing new would be in it
pub record IsLeftOf (world : World) (p : ℕ) (frame : Frame) (found : List Bool) (entered : ℕ) (left : Option Frame) : Type 0 where
  pub mask : List Bool
  pub same_length : length mask ≡ length frame.mask
  pub within : (n : ℕ) → IsIn mask n → IsIn frame.mask n
  pub keeps : (n : ℕ) → IsIn frame.mask n → IsInCone world p frame found entered n → IsIn mask n
  pub left_is : MatchOption left (HasUnseen mask found → ⊥) (λ next. next ≡ with_mask mask frame)

-- ---- how it is found

-- Leaves that were entered, and those of them that are still to be gone on from: all others are gone on from, so that the
-- row has what portals lead into from there.
pub record IsConeSoFar (world : World) (p : ℕ) (frame : Frame) (found : List Bool) (entered : ℕ) (row : List Bool) (due : List ℕ) : Type 0 where
  pub wide : length row ≡ length (numbered_leaves world.tree)
  pub begun : IsIn row entered
  pub only : (n : ℕ) → Contains due n → IsIn row n
  pub gone_on : (from : ℕ) → IsIn row from → Contains due from ⊎ ((to : ℕ) → LeadsFrom world p frame found from to → IsIn row to)

-- The leaves that are left to enter, where a cone has these so far: each leaf that the chain may enter is in the cone or left, and
-- none that is left is in the cone.
pub record AreLeft (frame : Frame) (cone left : List Bool) : Type 0 where
  pub wide : length left ≡ length cone
  pub all : (n : ℕ) → MayEnter frame n → IsIn cone n ⊎ IsIn left n
  pub apart : (n : ℕ) → IsIn left n → IsIn cone n → ⊥

-- leaves are entered, among them all to which it goes, and each of them is due
pub record AreEntered (goes : ℕ → Type 0) (old new : List Bool) (old_due new_due : List ℕ) : Type 0 where
  pub same_length : length new ≡ length old
  pub stays : (n : ℕ) → IsIn old n → IsIn new n
  pub due_stays : (n : ℕ) → Contains old_due n → Contains new_due n
  pub gained : (n : ℕ) → IsIn new n → IsIn old n ⊎ Contains new_due n
  pub only : (n : ℕ) → Contains new_due n → Contains old_due n ⊎ IsIn new n
  pub all : (to : ℕ) → goes to → IsIn new to
  pub weight : count_by not new + length new_due ≡ count_by not old + length old_due
