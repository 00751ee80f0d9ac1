use Rattle.std.specs.Prelude.{◌≡◌, ◌↔◌, ℕ, Bool, List, [], ◌∷◌, ◌++◌, All, length, Contains}
use Rattle.std.specs.List.{AllZip}
use Rattle.qm_lists.specs.WorkList.{IsIn}
use Rattle.qm_partition.specs.Tree.{Tree}
use Rattle.qm_contacts.specs.NumberedLeaves.{numbered_leaves}
use Rattle.qm_contacts.specs.Portals.{Portal}
use Rattle.qm_contacts.specs.World.{World}
use Rattle.qm_segments.specs.SeenVia.{IsSeenVia, LiesFartherOn}
use Rattle.qm_segments.specs.OpenChain.{leaves_met, IsOpenChain}
use Rattle.qm_segments.specs.Ahead.{IsAheadOver}
use Rattle.qm_separators.specs.ChainState.{ChainState}
use Rattle.qm_separators.specs.PortalSteps.{BeginsWith, StepsThrough, BlocksAt, LetsPass, MeetsState}
use Rattle.qm_chains.specs.Shown.{IsAt}

-- A place in a walk of open chains.

-- the end of a chain: the state to which it has led, the portals by which it is still to go on, by their numbers, the leaves
-- in which it has been, and the leaves that it may still show
pub record Frame : Type 0 where
  pub state : ChainState
  pub untried : List ℕ
  pub met : List Bool
  pub mask : List Bool

-- the same frame with one portal more to be tried first
abbrev pub put_back : ℕ → Frame → Frame
put_back number frame = record { state = frame.state; untried = number ∷ frame.untried; met = frame.met; mask = frame.mask }

-- An open chain from the portal of number p ends here, and all that the walk may still show of it each of its portals may
-- have: which leaf, and then the portal, by their numbers, is any relation.
pub record EndsChain (world : World) (MayHave : ℕ → ℕ → Type 0) (p : ℕ) (frame : Frame) : Type 0 where
  pub first : Portal
  pub first_is : IsAt world.portals p first
  pub last : Portal
  pub before : List Portal
  pub open_chain : IsOpenChain BeginsWith StepsThrough world.portals first (last ∷ before) frame.state
  pub later : List ℕ
  pub numbers_are : AllZip (IsAt world.portals) (later ++ p ∷ []) (last ∷ before)
  pub each_may : (n : ℕ) → IsIn frame.mask n → All (MayHave n) (later ++ p ∷ [])
  pub met_is : (n : ℕ) → IsIn frame.met n ↔ Contains (leaves_met first (last ∷ before)) n
  pub untried_leave : (number : ℕ) → Contains frame.untried number → (q : Portal) × IsAt world.portals number q × (q.from ≡ last.to)
  pub met_wide : length frame.met ≡ length (numbered_leaves world.tree)
  pub mask_wide : length frame.mask ≡ length (numbered_leaves world.tree)

-- a chain stops before the portal q: the state does not let it pass, or the step there blocks
pub data StopsAt (state : ChainState) (q : Portal) : Type 0 where
  not_passed : (LetsPass state q → ⊥) → StopsAt state q
  blocked : BlocksAt state q → StopsAt state q

-- a chain may enter the leaf of number n from a frame: it was not met, and it may still be shown
abbrev pub MayEnter : Frame → ℕ → Type 0
MayEnter frame n = (IsIn frame.met n → ⊥) × IsIn frame.mask n

-- The portal q is next on the way to the leaf of number n: the chain may enter the leaf that q enters, the leaf of number n is
-- seen via q from the first portal, and the chain does not stop there. After the step that leaf is ahead, farther on along that
-- way, over leaves that the chain may enter.
pub record IsNextTo (tree : Tree) (first : Portal) (frame : Frame) (n : ℕ) (q : Portal) : Type 0 where
  pub may_enter : MayEnter frame q.to
  pub via : IsSeenVia tree first q n
  pub not_stopped : StopsAt frame.state q → ⊥
  pub ahead : (next : ChainState) → StepsThrough frame.state q next → IsAheadOver MeetsState tree first next q.to (LiesFartherOn tree via (MayEnter frame)) n

-- the leaf of number n is awaited here: it may still be shown, by some portal that is still to be tried
pub record IsAwaited (world : World) (first : Portal) (n : ℕ) (frame : Frame) : Type 0 where
  pub in_mask : IsIn frame.mask n
  pub number : ℕ
  pub untried : Contains frame.untried number
  pub portal : Portal
  pub portal_is : IsAt world.portals number portal
  pub next : IsNextTo world.tree first frame n portal
