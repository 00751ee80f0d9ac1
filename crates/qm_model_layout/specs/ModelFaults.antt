use Rattle.std.specs.Prelude.{◌≡◌, ◌<◌, ◌^◌, ◌+◌, ℕ, IsTrue, List, [], ◌∷◌, ◌++◌, length, flat_map}
use Rattle.std.specs.Int.{w32}
use Rattle.qm_formats.specs.Fields.{unsigned}
use Rattle.qm_formats.specs.FileParts.{FileFaultKind, short, trailing, section_form}
use Rattle.qm_formats.specs.TreeFile.{small_bound}
use Rattle.qm_model_layout.specs.BrushModel.{BrushModel, IsModelBehind, AreModelsBehind}
use Rattle.qm_model_layout.specs.ModelLayout.{KeptModel, kept_layout, kept_of_model, model_layout, AreModelsBytes}

-- Which fault the bytes of a section of brush models have: the first in their order, and its place.

-- the bytes of models one behind the other
abbrev pub bytes_of_models : List BrushModel → List ℕ
bytes_of_models models = flat_map (model_layout small_bound 0 0).bytes_of models

-- the entity of the last model; a number where there is none
abbrev pub last_entity : ℕ → List BrushModel → ℕ
last_entity before [] = before
last_entity before (model ∷ models) = last_entity model.entity models

-- behind the number of models stand the first of them, which can stand there; others are due in the bytes that are left
pub record AreFirstModels (bound numbered : ℕ) (bytes : List ℕ) (models : List BrushModel) (left : List ℕ) : Type 0 where
  pub count : ℕ
  pub count_fits : count < 2 ^ 32
  pub few : length models < count
  pub are_models : AreModelsBehind bound numbered 0 models
  pub bytes_are : bytes ≡ (unsigned short w32).bytes_of count ++ (bytes_of_models models ++ left)

-- bytes begin with those of a model as it is kept, each number of which fits its field
pub record BeginWithKept (bytes : List ℕ) (kept : KeptModel) : Type 0 where
  pub fits : IsTrue (kept_layout.right kept)
  pub rest : List ℕ
  pub bytes_are : bytes ≡ kept_layout.bytes_of kept ++ rest

-- the number of models is cut off; or a model that is due is; or one whose bytes are all there cannot stand there, at its first
-- byte; or bytes follow the last model
pub data IsFaultOfModelBytes (bound numbered : ℕ) (bytes : List ℕ) : FileFaultKind → ℕ → Type 0 where
  number_cut_off : length bytes < 4 → IsFaultOfModelBytes bound numbered bytes short (length bytes)
  model_cut_off : (models : List BrushModel) (left : List ℕ) → AreFirstModels bound numbered bytes models left → ((kept : KeptModel) → BeginWithKept left kept → ⊥) → IsFaultOfModelBytes bound numbered bytes short (length bytes)
  no_model :
      (models : List BrushModel) (left : List ℕ) (kept : KeptModel) (place : ℕ) → AreFirstModels bound numbered bytes models left → BeginWithKept left kept →
      ((model : BrushModel) → kept_of_model model ≡ kept → IsModelBehind bound numbered (last_entity 0 models) model → ⊥) → place + length left ≡ length bytes → IsFaultOfModelBytes bound numbered bytes section_form place
  bytes_follow : (front left : List ℕ) (models : List BrushModel) → AreModelsBytes bound numbered front models → 0 < length left → bytes ≡ front ++ left → IsFaultOfModelBytes bound numbered bytes trailing (length front)
