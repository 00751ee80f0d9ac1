-- What an answer says of the bytes, where it is the one that reading gives.
use Rattle.std.proofs.Common.{◌≡◌, ℕ, List, length, Result, Ok, Err, refl, sym, ◌∙◌}
use Rattle.std.specs.Prelude.{IfOk, MatchResult}
use Rattle.qm_formats.specs.Layout.{Decoded, got}
use Rattle.qm_formats.specs.Fields.{AreBytes}
use Rattle.qm_formats.specs.FileParts.{FileFaultKind}
use Rattle.qm_model_layout.specs.BrushModel.{BrushModel}
use Rattle.qm_model_layout.specs.ModelLayout.{AreModelsBytes, read_models}
use Rattle.qm_model_layout.proofs.WholeSections.{read_models_found, read_models_again}
use Rattle.qm_model_file.specs.declared.models_fault.ModelsFault.{ModelsFault}
use Rattle.qm_model_file.specs.declared.models_fault.ModelsFault.TheVariants as faults
use Rattle.qm_model_file.specs.Answers.{IsFaultOfModels, AnswersModels}

-- a fault but want of memory is none where models are read
no_fault : (fault : ModelsFault) (answer : Decoded FileFaultKind (List BrushModel)) (models : List BrushModel) (next : ℕ) → answer ≡ got models next → IsFaultOfModels fault answer → fault ≡ faults.Memory
no_fault (faults.Short offset) answer models next is fault = absurd (let e = sym is ∙ fault in cc)
no_fault (faults.Form offset) answer models next is fault = absurd (let e = sym is ∙ fault in cc)
no_fault (faults.Trailing offset) answer models next is fault = absurd (let e = sym is ∙ fault in cc)
no_fault faults.Memory answer models next is fault = refl

module _ (bound numbered : ℕ) (bytes : List ℕ) (are : AreBytes bytes) where
  pub models_found : (answer : Result (List BrushModel) ModelsFault) → AnswersModels (λ models. models) (λ _. length bytes) answer (read_models bound numbered bytes) → IfOk answer (λ models. AreModelsBytes bound numbered bytes models)
  models_found (Ok models) is = read_models_found bound numbered bytes models (length bytes) are is
  models_found (Err fault) is = tt

  pub models_only : (answer : Result (List BrushModel) ModelsFault) → AnswersModels (λ models. models) (λ _. length bytes) answer (read_models bound numbered bytes) → (models : List BrushModel) → AreModelsBytes bound numbered bytes models → MatchResult answer (λ found. found ≡ models) (λ fault. fault ≡ faults.Memory)
  models_only (Ok found) is models written =
      let e = sym is ∙ read_models_again bound numbered bytes models are written in
      cc
  models_only (Err fault) is models written = no_fault fault (read_models bound numbered bytes) models (length bytes) (read_models_again bound numbered bytes models are written) is
