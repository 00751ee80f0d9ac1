use Rattle.std.specs.Prelude.{◌≡◌, List, length, All}
use Rattle.qm_space.specs.Bounds.{world_extent}
use Rattle.qm_space.specs.Plane.{Plane}
use Rattle.qm_face_layout.specs.PlaneNumbers.{IsPlaneNumber}
use Rattle.qm_face_corners.specs.declared.kept_number.KeptNumber.{KeptNumber}

-- Numbers of planes that were looked for before.

-- it is the plane's number
abbrev pub HasItsNumber : List Plane → KeptNumber → Type 0
HasItsNumber planes kept = IsPlaneNumber planes world_extent kept.plane kept.number

-- as many as are kept, each that of its plane
pub record AreKeptNumbers (planes : List Plane) (kept : List KeptNumber) : Type 0 where
  pub count : length kept ≡ 1024
  pub each : All (HasItsNumber planes) kept
