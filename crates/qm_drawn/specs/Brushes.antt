use Rattle.std.specs.Prelude.{ℕ, Bool, List, [], ◌∷◌, slice_index_or, Option, filter, is_some}
use Rattle.qm_mapfile.specs.declared.face.Face.{Face}
use Rattle.qm_mapfile.specs.declared.entity.Brush.{Brush}
use Rattle.qm_mapfile.specs.declared.entity.Entity.{Entity}
use Rattle.qm_mapfile.specs.declared.entity.MapFile.{MapFile}
use Rattle.qm_contents.specs.declared.contents.Contents.{Contents}
use Rattle.qm_contents.specs.Texture.{contents_of_texture}

-- The brushes of the world and of any other entity, what fills each, and which are drawn.

-- the brushes of the first entity, the world
abbrev pub brushes_of_first : List Entity → List Brush
brushes_of_first [] = []
brushes_of_first (world ∷ others) = world.brushes

abbrev pub world_brushes : MapFile → List Brush
world_brushes map = brushes_of_first map.entities

-- the brushes of the entity of that number; the world has the number 0
abbrev pub entity_brushes : MapFile → ℕ → List Brush
entity_brushes map e = (slice_index_or map.entities e (record { pairs = []; brushes = [] })).brushes

-- the name of the texture on the first face
abbrev pub first_texture : List Face → List ℕ
first_texture [] = []
first_texture (face ∷ faces) = face.texture

-- the contents of a brush: the name on its first face decides; a brush that is clip has none
abbrev pub contents_of_brush : Brush → Option Contents
contents_of_brush brush = contents_of_texture (first_texture brush.faces)

-- a brush is in the drawn world where it is not clip
abbrev pub is_drawn : Brush → Bool
is_drawn brush = is_some (contents_of_brush brush)

-- those of some brushes that are not clip, in their order
abbrev pub drawn_ones : List Brush → List Brush
drawn_ones brushes = filter is_drawn brushes

-- the world's brushes that are not clip, in the order of the text
abbrev pub drawn_brushes : MapFile → List Brush
drawn_brushes map = drawn_ones (world_brushes map)
