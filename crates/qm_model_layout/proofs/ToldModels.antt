-- Of every list it can be told of which models it has the bytes, if of any.
use Rattle.std.proofs.Common.{◌≡◌, ℕ, Bool, true, false, ◌&&◌, List, [], ◌∷◌, length, Option, Some, None, refl, sym, ap, ◌∙◌}
use Rattle.std.specs.Prelude.{MatchOption, bytes_eq}
use Rattle.std.specs.Bool.{Decides}
use Rattle.std.proofs.lemmas.Bool.Decides.{Decides-and, Decides-like}
use Rattle.std.proofs.lemmas.Slice.Eq.{bytes_eq-Decides}
use Rattle.qm_formats.specs.Layout.{Decoded, got, bad}
use Rattle.qm_formats.specs.FileParts.{FileFaultKind, trailing}
use Rattle.qm_formats.specs.FileLayout.{file_bytes}
use Rattle.qm_formats.proofs.FileBytes.{bytes_of_file}
use Rattle.qm_formats.proofs.ReadToEnd.{all_again}
use Rattle.qm_model_layout.specs.BrushModel.{BrushModel, AreModelsBehind, AreValidModels}
use Rattle.qm_model_layout.specs.ModelLayout.{models_layout, models_bytes, AreModelsBytes, read_models}
use Rattle.qm_model_layout.proofs.ExactModels.{models_exact}
use Rattle.qm_model_layout.proofs.ValidModels.{HaveFileBytes, models_in_words, models_by_test}
use Rattle.qm_model_layout.proofs.WholeSections.{own_bytes}

module _ (bound numbered : ℕ) where
  have_file_bytes : (before : ℕ) (models : List BrushModel) → AreModelsBehind bound numbered before models → HaveFileBytes models
  have_file_bytes before [] are = tt
  have_file_bytes before (model ∷ models) are =
      let file = are.0.file in
      (bytes_of_file (file_bytes model.file) model.file (record { valid = file.is_valid; bytes_are = refl; fits = file.fits }), have_file_bytes model.entity models are.1)

  right_models : (models : List BrushModel) → AreValidModels bound numbered models → (models_layout bound numbered).right models ≡ true
  right_models models are = models_by_test bound numbered models (have_file_bytes 0 models are.each) are

  module _ (bytes : List ℕ) where
    -- models are read in their bytes
    pub valid_models_again : (models : List BrushModel) → AreModelsBytes bound numbered bytes models → read_models bound numbered bytes ≡ got models (length bytes)
    unfolding read_models
    valid_models_again models is = all_again (models_layout bound numbered) (models_exact bound numbered) trailing bytes models (right_models models is.are_valid) (is.bytes_are ∙ sym (own_bytes bound numbered models))

    -- whether the bytes are those of these models
    abbrev is_of : List BrushModel → Bool
    is_of models = (models_layout bound numbered).right models && bytes_eq bytes (models_bytes models)

    decided : (models : List BrushModel) → Decides (is_of models) (AreModelsBytes bound numbered bytes models)
    decided models =
        Decides-like (is_of models) (λ both. record { are_valid = both.0; bytes_are = both.1 }) (λ is. (is.are_valid, is.bytes_are))
        (Decides-and ((models_layout bound numbered).right models) (bytes_eq bytes (models_bytes models)) (models_in_words bound numbered models, right_models models) (bytes_eq-Decides bytes (models_bytes models)))

    by_test : (models : List BrushModel) (next : ℕ) (test : Bool) → read_models bound numbered bytes ≡ got models next → is_of models ≡ test →
        (found : Option (List BrushModel)) × MatchOption found ((models : List BrushModel) → AreModelsBytes bound numbered bytes models → ⊥) (AreModelsBytes bound numbered bytes)
    by_test models next true read is = (Some models, (decided models).0 is)
    by_test models next false read not = (
      None,
      λ other are.
          let both : got models next ≡ got other (length bytes) = sym read ∙ valid_models_again other are in
          let same : other ≡ models = cc in
          let tests : false ≡ true = sym not ∙ ap is_of (sym same) ∙ (decided other).1 are in
          absurd cc,
    )

    by_reading : (read : Decoded FileFaultKind (List BrushModel)) → read_models bound numbered bytes ≡ read →
        (found : Option (List BrushModel)) × MatchOption found ((models : List BrushModel) → AreModelsBytes bound numbered bytes models → ⊥) (AreModelsBytes bound numbered bytes)
    by_reading (got models next) read = by_test models next (is_of models) read refl
    by_reading (bad fault place) read = (None, λ models are. let both : bad fault place ≡ got models (length bytes) = sym read ∙ valid_models_again models are in absurd cc)

pub models_or_not : (bound numbered : ℕ) (bytes : List ℕ) →
    (found : Option (List BrushModel)) × MatchOption found ((models : List BrushModel) → AreModelsBytes bound numbered bytes models → ⊥) (AreModelsBytes bound numbered bytes)
models_or_not bound numbered bytes = by_reading bound numbered bytes (read_models bound numbered bytes) refl
