-- The brush models of a map can stand in a section, where their bytes are not too long.
use Rattle.std.proofs.Common.{◌≡◌, ◌<◌, ◌≤◌, ℕ, ◌^◌, List, [], ◌∷◌, ◌++◌, All, length, ap, ◌∙◌, subst, length-append, arith}
use Rattle.std.specs.Prelude.{map as mapped}
use Rattle.std.specs.Int.{w32}
use Rattle.std.proofs.lemmas.List.Elements.{All-head, All-tail, All-weaker}
use Rattle.qm_space.specs.Bounds.{world_extent}
use Rattle.qm_mapfile.specs.declared.entity.MapFile.{MapFile}
use Rattle.qm_drawn.specs.Solids.{entity_solids}
use Rattle.qm_partition.specs.Tree.{Tree}
use Rattle.qm_partition.specs.Counting.{leaves_of}
use Rattle.qm_contacts.specs.NumberedLeaves.{numbered_leaves}
use Rattle.qm_contacts.proofs.NumberingLeaves.{numbered_count}
use Rattle.qm_formats.specs.Fields.{unsigned}
use Rattle.qm_formats.specs.FileParts.{short}
use Rattle.qm_formats.specs.TreeFile.{IsValidFile}
use Rattle.qm_formats.specs.FileLayout.{file_bytes, file_limit}
use Rattle.qm_plain.specs.PlainFile.{IsPlainFile}
use Rattle.qm_outlines.specs.Models.{IsModelOf}
use Rattle.qm_model_layout.specs.BrushModel.{BrushModel, AreModelsBehind, AreValidModels}
use Rattle.qm_model_layout.specs.ModelLayout.{models_bytes}
use Rattle.qm_model_layout.proofs.WrittenModels.{models_bytes-parts}
use Rattle.qm_model_sections.specs.MapModels.{model_found, AreBrushModelsOf}
use Rattle.qm_model_sections.specs.ModelBytes.{AreBytesOfModels}
use Rattle.qm_model_sections.proofs.WrittenBoxes.{box_written}
use Rattle.qm_model_sections.proofs.EachModel.{EntitiesAscend, found_ascend, each_model}
use Rattle.qm_model_sections.proofs.WrittenLeaves.{leaves_ascend, no_more}
use Rattle.qm_model_sections.proofs.ModelSizes.{bytes_of_each_model, some_bytes_each, files_within}

module _ (map : MapFile) (world : Tree) (few_entities : length map.entities < 2 ^ 64) (few_leaves : length (numbered_leaves world) < 2 ^ 64) where
  -- models can stand in a section, where the files of their trees are not too long
  behind : (before : ℕ) (models : List BrushModel) → EntitiesAscend before (length map.entities) (mapped model_found models) → All (λ model. IsModelOf map world model.entity (model_found model)) models →
      All (λ model. IsPlainFile world_extent model.file) models → All (λ model. IsValidFile model.file) models → All (λ model. length (file_bytes model.file) ≤ file_limit) models →
      AreModelsBehind world_extent (length (numbered_leaves world)) before models
  behind before [] ascend each plain valid fit = tt
  behind before (model ∷ models) ascend each plain valid fit =
      let Own : BrushModel → Type 0 = λ m. IsModelOf map world m.entity (model_found m) in
      let Plain : BrushModel → Type 0 = λ m. IsPlainFile world_extent m.file in
      let Valid : BrushModel → Type 0 = λ m. IsValidFile m.file in
      let Fits : BrushModel → Type 0 = λ m. length (file_bytes m.file) ≤ file_limit in
      let own = All-head Own model models each in
      let leaves = leaves_ascend world (entity_solids map model.entity) model.leaves few_leaves own.leaves_are in (
        record {
          above = ascend.0;
          entity_fits = omega (arith, ascend.1, few_entities);
          box = box_written (entity_solids map model.entity) model.box own.box_is;
          few = omega (arith, few_leaves, no_more 0 (length (numbered_leaves world)) model.leaves (omega arith) leaves);
          leaves = leaves;
          file = record {
            is_plain = All-head Plain model models plain;
            is_valid = All-head Valid model models valid;
            fits = All-head Fits model models fit;
          };
        },
        behind model.entity models ascend.2 (All-tail Own model models each) (All-tail Plain model models plain) (All-tail Valid model models valid) (All-tail Fits model models fit),
      )

  module _ (models : List BrushModel) (bytes : List ℕ) (are : AreBrushModelsOf map world models) (exactly : bytes ≡ models_bytes models) where
    long : length bytes ≡ length ((unsigned short w32).bytes_of (length models) ++ bytes_of_each_model models)
    long = ap length (exactly ∙ models_bytes-parts models)

    -- models whose bytes are not too long can stand in a section
    pub valid_models : length bytes ≤ file_limit → AreValidModels world_extent (length (numbered_leaves world)) models
    valid_models fits =
        let parts = length-append ((unsigned short w32).bytes_of (length models)) (bytes_of_each_model models) in
        let Within : BrushModel → Type 0 = λ m. length (file_bytes m.file) ≤ length (bytes_of_each_model models) in
        let fit = All-weaker Within (λ m. length (file_bytes m.file) ≤ file_limit) (λ m within. omega (arith, long, fits, within)) models (files_within models) in
        record {
          few = omega (arith, long, fits, some_bytes_each models);
          each = behind 0 models (found_ascend map world (mapped model_found models) are.are_found) (each_model map world models are) are.are_plain are.are_valid fit;
        }

    -- so their bytes are those of models of the section
    pub bytes_of_models : AreBytesOfModels world models bytes
    bytes_of_models = record {
      exactly = exactly;
      are_valid = λ fits. subst (λ (n : ℕ). AreValidModels world_extent n models) (numbered_count (leaves_of world.shape) 0) (valid_models fits);
    }
