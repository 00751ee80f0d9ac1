use Rattle.std.specs.Prelude.{ℕ, List, Option, option_map}
use Rattle.std.specs.Prelude.{map as mapped}
use Rattle.std.specs.List.{filter_map}
use Rattle.qm_mapfile.specs.declared.entity.Brush.{Brush}
use Rattle.qm_mapfile.specs.declared.entity.MapFile.{MapFile}
use Rattle.qm_mapfile.specs.Face.{face_outward}
use Rattle.qm_contents.specs.declared.contents.Contents.{Contents}
use Rattle.qm_solids.specs.Solid.{Solid}
use Rattle.qm_drawn.specs.Brushes.{world_brushes, entity_brushes, contents_of_brush}

-- a brush filled with these contents: it lies behind the planes of its faces, as the text gives them
abbrev pub filled_with : Brush → Contents → Solid
filled_with brush contents = record { contents = contents; outward = mapped face_outward brush.faces }

-- the solid that a brush is; a brush that is clip is none
abbrev pub solid_of_brush : Brush → Option Solid
solid_of_brush brush = option_map (filled_with brush) (contents_of_brush brush)

-- the solids of those of some brushes that are not clip, in their order
abbrev pub solids_of_drawn : List Brush → List Solid
solids_of_drawn brushes = filter_map solid_of_brush brushes

-- the solids of the world's brushes that are not clip, in the order of the text
abbrev pub drawn_solids : MapFile → List Solid
drawn_solids map = solids_of_drawn (world_brushes map)

-- the solids of an entity's brushes that are not clip, in the order of the text
abbrev pub entity_solids : MapFile → ℕ → List Solid
entity_solids map e = solids_of_drawn (entity_brushes map e)
