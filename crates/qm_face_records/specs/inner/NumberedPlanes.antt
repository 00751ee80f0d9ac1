use Rattle.std.specs.Prelude.{◌≡◌, Bool, List}
use Rattle.qm_space.specs.Plane.{Plane}
use Rattle.qm_space.specs.Turned.{turned}
use Rattle.qm_surface.specs.Surface.{FacePiece}
use Rattle.qm_face_corners.specs.NamedPlanes.{HasNamedPlanes}

-- the planes of a piece have numbers, and it faces one side of its own plane
pub record HasPlaneNumbers (planes : List Plane) (piece : FacePiece) : Type 0 where
  pub side : Bool
  pub into : piece.into ≡ turned side piece.winding.plane
  pub named : HasNamedPlanes planes piece.winding
