-- On which sides of all planes the windings of all lanes have corners.
use Rattle.std.specs.Prelude.{◌≡◌, ℕ, ◌+◌, ◌-◌, ◌<◌, Bool, List, Some, All, if◌then◌else◌, length, slice_get}
use Rattle.qm_space.specs.Plane.{Plane}
use Rattle.qm_contacts.specs.Portals.{Portal}
use Rattle.qm_base.specs.declared.lane.Lane.{Lane}
use Rattle.qm_base.specs.declared.beside.Beside.{Beside}
use Rattle.qm_base.specs.declared.table.Kind.{Kind}
use Rattle.qm_base.specs.inner.Lanes.{AreLanes}
use Rattle.qm_base.specs.inner.Besides.{IsBeside, beside_at}

-- the lanes with a corner in front of a turned plane, and those with one behind it
unfoldable pub ahead : List Beside → Kind → List Bool
ahead table kind = if kind.front then (beside_at table kind.class).front else (beside_at table kind.class).behind

unfoldable pub back : List Beside → Kind → List Bool
back table kind = if kind.front then (beside_at table kind.class).behind else (beside_at table kind.class).front

-- the kinds of lanes name rows of the table, which have a place for each lane
pub record AreKinds (lanes : List Lane) (kinds : List Kind) (table : List Beside) : Type 0 where
  pub one_each : length kinds ≡ length lanes
  pub within : All (λ kind. kind.class < length table) kinds
  pub front_wide : All (λ beside. length beside.front ≡ length lanes) table
  pub behind_wide : All (λ beside. length beside.behind ≡ length lanes) table

-- the kind of a lane names the rows of its plane
pub record IsKindOf (portals : List Portal) (lanes : List Lane) (table : List Beside) (lane : Lane) (kind : Kind) : Type 0 where
  pub front : kind.front ≡ lane.front
  pub within : kind.class < length table
  pub beside : IsBeside portals lanes lane.plane (beside_at table kind.class)

pub record IsTable (portals : List Portal) (lanes : List Lane) (kinds : List Kind) (table : List Beside) : Type 0 where
  pub are_lanes : AreLanes portals lanes
  pub are_kinds : AreKinds lanes kinds table
  pub each : (k : ℕ) (lane : Lane) (kind : Kind) → slice_get lanes k ≡ Some lane → slice_get kinds k ≡ Some kind → IsKindOf portals lanes table lane kind

-- the kind of a lane names its plane among some planes
pub record IsClassOf (planes : List Plane) (lane : Lane) (kind : Kind) : Type 0 where
  pub front : kind.front ≡ lane.front
  pub plane : slice_get planes kind.class ≡ Some lane.plane

-- the last of the planes is that of the lane at a place
abbrev pub IsLastPlaneOf : List Lane → ℕ → List Plane → Type 0
IsLastPlaneOf lanes k planes = (lane : Lane) → slice_get lanes k ≡ Some lane → (0 < length planes) × (slice_get planes (length planes - 1) ≡ Some lane.plane)

-- the planes stay where they are, and the last one is that of a lane
pub record IsPlaneAdded (lanes : List Lane) (k : ℕ) (old new : List Plane) : Type 0 where
  pub kept : (class : ℕ) (h : Plane) → slice_get old class ≡ Some h → slice_get new class ≡ Some h
  pub last : IsLastPlaneOf lanes k new

-- the lanes before a place have their kinds, and the last plane is that of the last of them
pub record AreClasses (lanes : List Lane) (place : ℕ) (kinds : List Kind) (planes : List Plane) : Type 0 where
  pub one_each : length kinds ≡ place
  pub each : (k : ℕ) (lane : Lane) (kind : Kind) → slice_get lanes k ≡ Some lane → slice_get kinds k ≡ Some kind → IsClassOf planes lane kind
  pub last : (k : ℕ) → place ≡ k + 1 → IsLastPlaneOf lanes k planes

-- the lane before has the same plane
pub record HasPlaneBefore (lanes : List Lane) (k : ℕ) : Type 0 where
  pub before : ℕ
  pub lane : Lane
  pub own : Lane
  pub next : k ≡ before + 1
  pub lane_is : slice_get lanes before ≡ Some lane
  pub own_is : slice_get lanes k ≡ Some own
  pub same : lane.plane ≡ own.plane
