use Rattle.std.specs.Prelude.{false, List, map}
use Rattle.qm_space.specs.Plane.{Plane}
use Rattle.qm_space.specs.Turned.{turned}
use Rattle.qm_solids.specs.declared.face.FaceRef.{FaceRef}
use Rattle.qm_solids.specs.Outward.{outward_planes}

-- what lies strictly behind all of some faces, as a cell
abbrev pub cell_behind : List Plane → List FaceRef → List Plane
cell_behind planes faces = map (turned false) (outward_planes planes faces)
