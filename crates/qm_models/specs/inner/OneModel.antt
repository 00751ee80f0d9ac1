-- The brush models of a map, by one entity after another.
use Rattle.std.specs.Prelude.{ℕ, List, All}
use Rattle.std.specs.Prelude.{map as mapped}
use Rattle.qm_space.specs.Bounds.{world_extent}
use Rattle.qm_mapfile.specs.declared.entity.MapFile.{MapFile}
use Rattle.qm_partition.specs.Tree.{Tree}
use Rattle.qm_formats.specs.TreeFile.{IsValidFile}
use Rattle.qm_plain.specs.PlainFile.{IsPlainFile}
use Rattle.qm_outlines.specs.Models.{IsModelOf, AreModelsUpTo}
use Rattle.qm_model_layout.specs.BrushModel.{BrushModel}
use Rattle.qm_model_sections.specs.MapModels.{model_found}

-- the model of an entity, with the plain file of its tree
pub record IsBrushModelOf (map : MapFile) (world : Tree) (e : ℕ) (model : BrushModel) : Type 0 where
  pub is_found : IsModelOf map world e (model_found model)
  pub is_plain : IsPlainFile world_extent model.file
  pub is_valid : IsValidFile model.file

-- those of the entities from 1 up to a number
pub record AreBrushModelsUpTo (map : MapFile) (world : Tree) (e : ℕ) (models : List BrushModel) : Type 0 where
  pub are_found : AreModelsUpTo map world e (mapped model_found models)
  pub are_plain : All (λ model. IsPlainFile world_extent model.file) models
  pub are_valid : All (λ model. IsValidFile model.file) models
