-- The models that are read in a compiled file are those of the map.
use Rattle.std.proofs.Common.{◌≡◌, ◌≤◌, ℕ, Bool, true, false, List, [], ◌∷◌, ◌++◌, length, Option, Some, None, refl, sym, ap, ◌∙◌, subst, arith}
use Rattle.std.specs.Prelude.{IsTrue}
use Rattle.qm_space.specs.Bounds.{world_extent}
use Rattle.qm_mapfile.specs.declared.entity.MapFile.{MapFile}
use Rattle.qm_formats.specs.FileLayout.{file_limit}
use Rattle.qm_formats.specs.TreeFile.{Section, TreeFile}
use Rattle.qm_model_layout.specs.BrushModel.{BrushModel, AreValidModels}
use Rattle.qm_model_layout.specs.ModelLayout.{AreModelsBytes}
use Rattle.qm_model_sections.specs.MapModels.{AreBrushModelsOf}
use Rattle.qm_answers.specs.declared.decoded_section.DecodedSection.{DecodedSection}
use Rattle.qm_answers.specs.declared.decoded_section.DecodedSection.TheVariants.{Known}
use Rattle.qm_answers.specs.DecodedSections.{section_bytes, numbered_count, decoded_by, known_if_found, kind_of_models, models_answer, decoded_models}
use Rattle.qm_answers.proofs.OnlyContents.{is_models_answer}
use Rattle.qm_commands.specs.declared.options.Options.{Options}
use Rattle.qm_statement.specs.AskedSections.{IsModelSection, AreModelsAsAsked, AreSectionsAsked}
use Rattle.qm_statement.proofs.SectionsOfKinds.{past_hulls, past_faces}
use Rattle.qm_model_files.specs.ReadModels.{AreReadModels, HasModels}

module _ (map : MapFile) where
  module _ (options : Options) (file : TreeFile) (asked : AreSectionsAsked map file.tree options file.sections) (bound : file.bound ≡ world_extent) where
    found_behind : section_bytes file.sections kind_of_models ≡ section_bytes (asked.models ++ asked.faces) kind_of_models
    found_behind =
        ap (λ (s : List Section). section_bytes s kind_of_models) asked.are_all
        ∙ past_hulls map (asked.models ++ asked.faces) kind_of_models options.hulls asked.hulls (omega arith) asked.are_hulls

    -- no face has their kind
    none_behind : section_bytes asked.faces kind_of_models ≡ None
    none_behind = past_faces map file.tree kind_of_models options.faces asked.faces (λ same. omega (arith, same)) asked.are_faces

    -- the section of the models
    module _ (section : Section) (is : IsModelSection map file.tree section) (alone : asked.models ≡ section ∷ []) where
      has_bytes : section_bytes file.sections kind_of_models ≡ Some section.bytes
      has_bytes = found_behind ∙ ap (λ (s : List Section). section_bytes (s ++ asked.faces) kind_of_models) alone ∙ (rw is.kind_is refl)

      are_bytes_of : length section.bytes ≤ file_limit → AreModelsBytes file.bound (numbered_count file) section.bytes is.models
      are_bytes_of fits = record {
        are_valid = subst (λ (n : ℕ). AreValidModels n (numbered_count file) is.models) (sym bound) (is.bytes_are.are_valid fits);
        bytes_are = is.bytes_are.exactly;
      }

      is_decoded : length section.bytes ≤ file_limit → decoded_models file ≡ Known is.models
      is_decoded fits =
          let answer = is_models_answer file.bound (numbered_count file) section.bytes (Some is.models) (are_bytes_of fits) in
          ap (λ (b : Option (List ℕ)). decoded_by (λ bytes. (models_answer file.bound (numbered_count file) bytes).0) b) has_bytes ∙ ap known_if_found (sym answer)

      has_models : HasModels file
      has_models = record {
        bytes = section.bytes;
        there = has_bytes;
        read = λ fits. (is.models, record { bytes = section.bytes; has_bytes = record { there = has_bytes; fits = fits }; are_decoded = is_decoded fits });
      }

      own_models : (models : List BrushModel) → AreReadModels file models → AreBrushModelsOf map file.tree models
      own_models models read =
          let both : ◌≡◌ {A = Option (List ℕ)} (Some section.bytes) (Some read.bytes) = sym has_bytes ∙ read.has_bytes.there in
          let bytes : section.bytes ≡ read.bytes = cc in
          let known : ◌≡◌ {A = DecodedSection (List BrushModel)} (Known is.models) (Known models) =
          sym (is_decoded (subst (λ (b : List ℕ). length b ≤ file_limit) (sym bytes) read.has_bytes.fits)) ∙ read.are_decoded in
          let same : is.models ≡ models = cc in
          subst (AreBrushModelsOf map file.tree) same is.are_models

    has_as_asked : (models_asked : Bool) → AreModelsAsAsked models_asked map file.tree asked.models → IsTrue models_asked → HasModels file
    has_as_asked true alone given = has_models alone.section alone.is_section alone.are_alone
    has_as_asked false none given = absurd (let e : false ≡ true = given in cc)

    kept_as_asked : (models_asked : Bool) (models : List BrushModel) → AreModelsAsAsked models_asked map file.tree asked.models → AreReadModels file models → AreBrushModelsOf map file.tree models
    kept_as_asked true models alone read = own_models alone.section alone.is_section alone.are_alone models read
    kept_as_asked false models none read = absurd (
        let missing : ◌≡◌ {A = Option (List ℕ)} None (Some read.bytes) = sym (found_behind ∙ ap (λ (s : List Section). section_bytes (s ++ asked.faces) kind_of_models) none ∙ none_behind) ∙ read.has_bytes.there in cc
        )

    pub models_there : IsTrue options.models → HasModels file
    models_there given = has_as_asked options.models asked.are_models given

    pub kept_models : (models : List BrushModel) → AreReadModels file models → AreBrushModelsOf map file.tree models
    kept_models models read = kept_as_asked options.models models asked.are_models read
