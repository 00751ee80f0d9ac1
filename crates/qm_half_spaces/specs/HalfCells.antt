use Rattle.std.specs.Prelude.{List, map}
use Rattle.qm_space.specs.Plane.{Plane}
use Rattle.qm_space.specs.Turned.{turned}
use Rattle.qm_half_spaces.specs.declared.half.Half.{Half}

-- What several half-spaces have in common, as a cell.

-- the plane of a half-space, turned to it
abbrev pub inward_of_half : Half → Plane
inward_of_half half = turned half.front half.plane

-- the points in all of them: strictly on the named side of each plane
abbrev pub cell_of_halves : List Half → List Plane
cell_of_halves halves = map inward_of_half halves
