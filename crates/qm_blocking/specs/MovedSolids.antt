use Rattle.std.specs.Prelude.{Bool, List, flat_map}
use Rattle.std.specs.Prelude.{map as mapped}
use Rattle.qm_space.specs.Plane.{Plane}
use Rattle.qm_space.specs.Turned.{turned}
use Rattle.qm_space.specs.Cuboid.{Cuboid}
use Rattle.qm_mapfile.specs.declared.face.Face.{Face}
use Rattle.qm_mapfile.specs.declared.entity.Brush.{Brush}
use Rattle.qm_mapfile.specs.Face.{face_plane}
use Rattle.qm_solids.specs.Solid.{Solid}
use Rattle.qm_blocking.specs.Moved.{moved_by}
use Rattle.qm_blocking.specs.Blocking.{solid_part}

-- Brushes whose planes are moved outward by a box.

-- the solid behind the moved planes
abbrev pub moved_solid : Cuboid → Solid → Solid
moved_solid box solid = record { contents = solid.contents; outward = mapped (moved_by box) solid.outward }

abbrev pub moved_part : Cuboid → Brush → Solid
moved_part box brush = moved_solid box (solid_part brush)

abbrev pub moved_parts : Cuboid → List Brush → List Solid
moved_parts box brushes = mapped (moved_part box) brushes

-- the plane of a face in lowest terms, moved on the side that is outward; and whether outward is its front
abbrev pub moved_side : Cuboid → Face → Plane × Bool
moved_side box face = (turned (face_plane face).1 (moved_by box (turned (face_plane face).1 (face_plane face).0)), (face_plane face).1)

abbrev pub moved_plane_of_face : Cuboid → Face → Plane
moved_plane_of_face box face = (moved_side box face).0

abbrev pub moved_planes_of_brush : Cuboid → Brush → List Plane
moved_planes_of_brush box brush = mapped (moved_plane_of_face box) brush.faces

-- the moved planes of some brushes, in the order of the text, a plane as often as it has faces
abbrev pub moved_planes : Cuboid → List Brush → List Plane
moved_planes box brushes = flat_map (moved_planes_of_brush box) brushes
