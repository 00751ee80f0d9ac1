use Rattle.std.specs.Prelude.{◌<◌, List, length, All, map}
use Rattle.qm_space.specs.Plane.{Plane}
use Rattle.qm_space.specs.Book.{plane_at}
use Rattle.qm_space.specs.Turned.{turned}
use Rattle.qm_solids.specs.declared.face.FaceRef.{FaceRef}

-- the outward plane of a face, by the planes of a book
abbrev pub outward_of : List Plane → FaceRef → Plane
outward_of planes face = turned face.out_is_front (plane_at planes face.plane)

abbrev pub outward_planes : List Plane → List FaceRef → List Plane
outward_planes planes faces = map (outward_of planes) faces

-- the book has the plane of each face
abbrev pub AreNumberedIn : List Plane → List FaceRef → Type 0
AreNumberedIn planes faces = All (λ face. face.plane < length planes) faces
