-- Portals in some order, each with its turned plane.
use Rattle.std.specs.Prelude.{◌≡◌, ℕ, ◌<◌, List, Some, All, length, slice_get, Contains}
use Rattle.qm_space.specs.Turned.{turned}
use Rattle.qm_contacts.specs.Portals.{Portal}
use Rattle.qm_base.specs.declared.lane.Lane.{Lane}

-- the lane of a portal, with the portal's turned plane
pub record IsLane (portals : List Portal) (lane : Lane) : Type 0 where
  pub portal : Portal
  pub portal_is : slice_get portals lane.portal ≡ Some portal
  pub into : portal.into ≡ turned lane.front lane.plane

-- the lane of a portal is among some lanes
pub record HasLane (lanes : List Lane) (p : ℕ) : Type 0 where
  pub lane : Lane
  pub among : Contains lanes lane
  pub of : lane.portal ≡ p

-- a lane for each portal
pub record AreLanes (portals : List Portal) (lanes : List Lane) : Type 0 where
  pub one_each : length lanes ≡ length portals
  pub each : All (IsLane portals) lanes
  pub every : (p : ℕ) → p < length portals → HasLane lanes p
