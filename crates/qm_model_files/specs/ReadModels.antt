use Rattle.std.specs.Prelude.{◌≡◌, ◌≤◌, List, ℕ, length, Some}
use Rattle.qm_formats.specs.TreeFile.{TreeFile}
use Rattle.qm_formats.specs.FileLayout.{file_limit}
use Rattle.qm_model_layout.specs.BrushModel.{BrushModel}
use Rattle.qm_answers.specs.declared.decoded_section.DecodedSection.TheVariants.{Known}
use Rattle.qm_answers.specs.DecodedSections.{section_bytes, kind_of_models, decoded_models}

-- The brush models that are read in a file.

-- the section of models has these bytes, no more than the limit of what is read
pub record HasModelBytes (file : TreeFile) (bytes : List ℕ) : Type 0 where
  pub there : section_bytes file.sections kind_of_models ≡ Some bytes
  pub fits : length bytes ≤ file_limit

-- these models are read in such a section
pub record AreReadModels (file : TreeFile) (models : List BrushModel) : Type 0 where
  pub bytes : List ℕ
  pub has_bytes : HasModelBytes file bytes
  pub are_decoded : decoded_models file ≡ Known models

-- there is a section of models; and if it has no more bytes than the limit of what is read, models are read in it
pub record HasModels (file : TreeFile) : Type 0 where
  pub bytes : List ℕ
  pub there : section_bytes file.sections kind_of_models ≡ Some bytes
  pub read : length bytes ≤ file_limit → (models : List BrushModel) × AreReadModels file models
