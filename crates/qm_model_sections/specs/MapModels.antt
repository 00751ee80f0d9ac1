use Rattle.std.specs.Prelude.{List, All}
use Rattle.std.specs.Prelude.{map as mapped}
use Rattle.qm_space.specs.Bounds.{world_extent}
use Rattle.qm_mapfile.specs.declared.entity.MapFile.{MapFile}
use Rattle.qm_partition.specs.Tree.{Tree}
use Rattle.qm_formats.specs.TreeFile.{IsValidFile}
use Rattle.qm_plain.specs.PlainFile.{IsPlainFile}
use Rattle.qm_outlines.specs.Models.{FoundModel, AreModelsOf}
use Rattle.qm_model_layout.specs.BrushModel.{BrushModel}

-- The brush models of a map, as a section keeps them.

-- what a brush model says of its entity, whatever the form of its file
abbrev pub model_found : BrushModel → FoundModel
model_found model = record { entity = model.entity; box = model.box; leaves = model.leaves; tree = model.file.tree }

-- these are the models of a map beside the tree of its world, each with the plain file of its own tree
pub record AreBrushModelsOf (map : MapFile) (world : Tree) (models : List BrushModel) : Type 0 where
  pub are_found : AreModelsOf map world (mapped model_found models)
  pub are_plain : All (λ model. IsPlainFile world_extent model.file) models
  pub are_valid : All (λ model. IsValidFile model.file) models
