use Rattle.std.specs.Prelude.{◌≡◌, ◌<◌, ℕ, List, All, Contains, length}
use Rattle.std.specs.Prelude.{map as mapped}
use Rattle.std.specs.List.Sorted.{IsStrictlyIncreasing}
use Rattle.qm_mapfile.specs.declared.entity.MapFile.{MapFile}
use Rattle.qm_drawn.specs.Solids.{entity_solids}
use Rattle.qm_partition.specs.Tree.{Tree}
use Rattle.qm_solid_tree.specs.GivesContents.{GivesContents}
use Rattle.qm_outlines.specs.HeldPoints.{IsModelBox, HasFull, HasNoFull}
use Rattle.qm_outlines.specs.ModelLeaves.{AreModelLeaves}
use Rattle.qm_model_layout.specs.BrushModel.{BrushModel}

-- Brush models that are exactly those of a map, beside the tree of its world.

-- the model of an entity other than the world that has a full brush which is not clip: its box is the least that has what these
-- brushes hold, its leaves are those that they touch, and its tree gives each point the contents that they define there
pub record IsExactModel (map : MapFile) (world : Tree) (model : BrushModel) : Type 0 where
  pub not_world : 0 < model.entity
  pub within : model.entity < length map.entities
  pub some_full : HasNoFull (entity_solids map model.entity) → ⊥
  pub box_is : IsModelBox (entity_solids map model.entity) model.box
  pub leaves_are : AreModelLeaves world (entity_solids map model.entity) model.leaves
  pub gives_contents : GivesContents model.file.tree (entity_solids map model.entity)

-- one for each such entity, in the order of the text
pub record AreExactModels (map : MapFile) (world : Tree) (models : List BrushModel) : Type 0 where
  pub each : All (IsExactModel map world) models
  pub in_order : IsStrictlyIncreasing (mapped (λ model. model.entity) models)
  pub none_is_left : (e : ℕ) → 0 < e → e < length map.entities → HasFull (entity_solids map e) → (model : BrushModel) × Contains models model × (model.entity ≡ e)
