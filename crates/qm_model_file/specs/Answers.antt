use Rattle.std.specs.Prelude.{◌≡◌, ℕ, Result, Ok, Err}
use Rattle.qm_formats.specs.Layout.{Decoded, got, bad}
use Rattle.qm_formats.specs.FileParts.{FileFaultKind, short, section_form, trailing}
use Rattle.qm_model_file.specs.declared.models_fault.ModelsFault.{ModelsFault}
use Rattle.qm_model_file.specs.declared.models_fault.ModelsFault.TheVariants as faults

-- a fault is the one that reading gives, unless memory ran out
abbrev pub IsFaultOfModels : {X : Type 0} → ModelsFault → Decoded FileFaultKind X → Type 0
IsFaultOfModels (faults.Short offset) answer = answer ≡ bad short offset
IsFaultOfModels (faults.Form offset) answer = answer ≡ bad section_form offset
IsFaultOfModels (faults.Trailing offset) answer = answer ≡ bad trailing offset
IsFaultOfModels faults.Memory answer = Unit {0}

-- what is answered, seen as the value of a layout with the place where it ends, is what reading gives, unless memory ran out
abbrev pub AnswersModels : {X Y : Type 0} → (X → Y) → (X → ℕ) → Result X ModelsFault → Decoded FileFaultKind Y → Type 0
AnswersModels value next (Ok x) answer = answer ≡ got (value x) (next x)
AnswersModels value next (Err fault) answer = IsFaultOfModels fault answer
