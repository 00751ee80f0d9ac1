use Rattle.std.specs.Prelude.{◌≡◌, ℕ, ℤ, Bool, List, length}
use Rattle.qm_space.specs.Bounds.{world_extent}
use Rattle.qm_space.specs.Plane.{Plane}
use Rattle.qm_convex.specs.Winding.{Winding}
use Rattle.qm_face_layout.specs.FaceCorners.{AreCornersFrom}

-- so many corners of a winding, from a place on, backward or not
pub record AreSomeCorners (planes : List Plane) (w : Winding) (backward : Bool) (first count : ℕ) (corners : List (List ℤ)) : Type 0 where
  pub counted : length corners ≡ count
  pub are_corners : AreCornersFrom planes world_extent w backward first corners
