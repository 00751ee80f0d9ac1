use Rattle.std.specs.Prelude.{◌≡◌, false, ℕ, ℤ, pos, ◌*ℤ◌, ◌<◌, List, length, get_or, slice_index_or}
use Rattle.qm_numbers.specs.Rounding.{IsRoundedDown, IsRoundedUp, IsNearest}
use Rattle.qm_space.specs.Bounds.{normal_bound}
use Rattle.qm_space.specs.Point.{Point, AreCoordinates}
use Rattle.qm_space.specs.Coordinates.{AreCoordinatesBy}
use Rattle.qm_convex.specs.Winding.{Winding, corner_at, corners}
use Rattle.qm_geom.specs.Vectors.{HasSmallComponents}
use Rattle.qm_geom.specs.declared.vector.Vector.{Vector}
use Rattle.qm_narrow.specs.declared.spot.Spot.{Spot}

-- What is kept beside a winding: its corners, and the whole points near them.

-- the whole points below and above a corner are one
pub record IsFixed (spot : Spot) : Type 0 where
  pub x : slice_index_or spot.below 0 (pos 0) ≡ slice_index_or spot.above 0 (pos 0)
  pub y : slice_index_or spot.below 1 (pos 0) ≡ slice_index_or spot.above 1 (pos 0)
  pub z : slice_index_or spot.below 2 (pos 0) ≡ slice_index_or spot.above 2 (pos 0)

-- how many fine units a unit has; whole points may be too coarse
abbrev pub fine_units : ℤ
fine_units = pos 1024

-- a corner's coordinates in fine units, rounded down
pub record IsFineOf (corner : Point) (fine : Vector) : Type 0 where
  pub of_x : IsRoundedDown (fine_units *ℤ corner.x) corner.w fine.x
  pub of_y : IsRoundedDown (fine_units *ℤ corner.y) corner.w fine.y
  pub of_z : IsRoundedDown (fine_units *ℤ corner.z) corner.w fine.z
  pub small : HasSmallComponents fine normal_bound

-- the whole points near a corner, and its coordinates in fine units
pub record IsSpotOf (corner : Point) (spot : Spot) : Type 0 where
  pub nearest : AreCoordinatesBy IsNearest corner spot.nearest
  pub below : AreCoordinatesBy IsRoundedDown corner spot.below
  pub above : AreCoordinatesBy IsRoundedUp corner spot.above
  pub nearest_in : AreCoordinates spot.nearest
  pub below_in : AreCoordinates spot.below
  pub above_in : AreCoordinates spot.above
  pub fixed : spot.loose ≡ false → IsFixed spot
  pub fine : IsFineOf corner spot.fine

-- the corners of a winding in their order, and the whole points near each
pub record IsTrace (v : Winding) (traced : List Point) (spots : List Spot) : Type 0 where
  pub corners_are : traced ≡ corners v
  pub one_each : length spots ≡ length v.edges
  pub spots_are : (i : ℕ) (d : Spot) → i < length v.edges → IsSpotOf (corner_at v i) (get_or spots i d)

-- the corner is the whole point of three numbers
pub record IsWholeAt (corner : Point) (at : List ℤ) : Type 0 where
  pub x : corner.x ≡ slice_index_or at 0 (pos 0)
  pub y : corner.y ≡ slice_index_or at 1 (pos 0)
  pub z : corner.z ≡ slice_index_or at 2 (pos 0)
  pub weight : corner.w ≡ pos 1
