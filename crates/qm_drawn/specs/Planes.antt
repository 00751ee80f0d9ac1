use Rattle.std.specs.Prelude.{ℕ, List, flat_map}
use Rattle.std.specs.Prelude.{map as mapped}
use Rattle.qm_space.specs.Plane.{Plane}
use Rattle.qm_mapfile.specs.declared.face.Face.{Face}
use Rattle.qm_mapfile.specs.declared.entity.Brush.{Brush}
use Rattle.qm_mapfile.specs.declared.entity.MapFile.{MapFile}
use Rattle.qm_mapfile.specs.Face.{face_plane}
use Rattle.qm_drawn.specs.Brushes.{world_brushes, entity_brushes, drawn_ones}

-- the plane of a face in lowest terms, led by a positive component
abbrev pub plane_of_face : Face → Plane
plane_of_face face = (face_plane face).0

abbrev pub planes_of_brush : Brush → List Plane
planes_of_brush brush = mapped plane_of_face brush.faces

-- the planes of all faces of those of some brushes that are not clip, in their order, a plane as often as it has faces
abbrev pub planes_of_drawn : List Brush → List Plane
planes_of_drawn brushes = flat_map planes_of_brush (drawn_ones brushes)

-- the planes of all faces of the world's brushes that are not clip, in the order of the text
abbrev pub drawn_planes : MapFile → List Plane
drawn_planes map = planes_of_drawn (world_brushes map)

-- the planes of all faces of an entity's brushes that are not clip, in the order of the text
abbrev pub entity_planes : MapFile → ℕ → List Plane
entity_planes map e = planes_of_drawn (entity_brushes map e)
