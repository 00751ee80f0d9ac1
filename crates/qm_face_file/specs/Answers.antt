use Rattle.std.specs.Prelude.{◌≡◌, ℕ, Result, Ok, Err}
use Rattle.qm_formats.specs.Layout.{Decoded, got, bad}
use Rattle.qm_formats.specs.FileParts.{FileFaultKind, short, section_form, trailing}
use Rattle.qm_face_file.specs.declared.faces_fault.FacesFault.{FacesFault}
use Rattle.qm_face_file.specs.declared.faces_fault.FacesFault.TheVariants as faults

-- a fault is the one that reading gives, unless memory ran out
abbrev pub IsFaultOfFaces : {X : Type 0} → FacesFault → Decoded FileFaultKind X → Type 0
IsFaultOfFaces (faults.Short offset) answer = answer ≡ bad short offset
IsFaultOfFaces (faults.Form offset) answer = answer ≡ bad section_form offset
IsFaultOfFaces (faults.Trailing offset) answer = answer ≡ bad trailing offset
IsFaultOfFaces faults.Memory answer = Unit {0}

-- what is answered, seen as the value of a layout with the place where it ends, is what reading gives, unless memory ran out
abbrev pub AnswersFaces : {X Y : Type 0} → (X → Y) → (X → ℕ) → Result X FacesFault → Decoded FileFaultKind Y → Type 0
AnswersFaces value next (Ok x) answer = answer ≡ got (value x) (next x)
AnswersFaces value next (Err fault) answer = IsFaultOfFaces fault answer
