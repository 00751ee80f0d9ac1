use Rattle.std.specs.Prelude.{ℕ, negsuc, []}
use Rattle.qm_space.specs.Bounds.{world_extent}
use Rattle.qm_space.specs.Plane.{Plane}
use Rattle.qm_face_layout.specs.PlaneNumbers.{NamesPlane}

-- the plane lies on the wall of the world's cube at a place, turned or not
abbrev pub IsOnWall : Plane → ℕ → Type 0
IsOnWall plane k = NamesPlane [] world_extent (negsuc k) plane
