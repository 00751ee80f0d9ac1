use Rattle.std.specs.Prelude.{ℕ, ℤ, Bool, List, [], slice_index_or}
use Rattle.qm_space.specs.Point.{Point, thousandths_point}
use Rattle.qm_space.specs.Plane.{Plane}
use Rattle.qm_space.specs.ThreePoints.{spanned_plane, plane_through, IsPlaneTooFine}
use Rattle.qm_space.specs.Line.{AreOnOneLine}
use Rattle.qm_mapfile.specs.declared.face.Face.{Face}

-- one of three points that are given by their coordinates, in thousandths of a map unit
abbrev pub point_at : List (List ℤ) → ℕ → Point
point_at points k = thousandths_point (slice_index_or points k [])

-- the three points are not on one line
abbrev pub SpanPlane : List (List ℤ) → Type 0
SpanPlane points = AreOnOneLine (point_at points 0) (point_at points 1) (point_at points 2) → ⊥

-- the three points are not on one line, and the plane through them is too fine
abbrev pub SpanTooFine : List (List ℤ) → Type 0
SpanTooFine points = IsPlaneTooFine (point_at points 0) (point_at points 1) (point_at points 2)

-- the three points give a plane: they are not on one line, and it is not too fine
pub record GivePlane (points : List (List ℤ)) : Type 0 where
  pub spans : SpanPlane points
  pub not_too_fine : SpanTooFine points → ⊥

-- one of the three points of a face
abbrev pub face_point : Face → ℕ → Point
face_point face k = point_at face.points k

-- the three points of a face give a plane
abbrev pub HasPlane : Face → Type 0
HasPlane face = GivePlane face.points

-- the plane of a face as its points give it, turned outward and not in lowest terms
abbrev pub face_outward : Face → Plane
face_outward face = spanned_plane (face_point face 0) (face_point face 1) (face_point face 2)

-- the plane of a face in lowest terms, and whether outward is its front
abbrev pub face_plane : Face → Plane × Bool
face_plane face = plane_through (face_point face 0) (face_point face 1) (face_point face 2)
