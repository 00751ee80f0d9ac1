use Rattle.std.specs.Prelude.{◌≡◌, ℕ, Result, Ok, Err}
use Rattle.qm_formats.specs.Layout.{Decoded, got, bad}
use Rattle.qm_formats.specs.FileParts.{FileFaultKind, short, magic, counts, header_form, plane_form, node_order, leaf_form, row_form, section_form, trailing, too_long}
use Rattle.qm_file.specs.declared.field_reading.CutOff.{CutOff}
use Rattle.qm_file.specs.declared.file_fault.FileFault.{FileFault}
use Rattle.qm_file.specs.declared.file_fault.FileFault.TheVariants as faults

-- a fault is the one that reading gives, unless memory ran out
abbrev pub IsFaultOfFile : {X : Type 0} → FileFault → Decoded FileFaultKind X → Type 0
IsFaultOfFile (faults.Short offset) answer = answer ≡ bad short offset
IsFaultOfFile (faults.Magic offset) answer = answer ≡ bad magic offset
IsFaultOfFile (faults.Counts offset) answer = answer ≡ bad counts offset
IsFaultOfFile (faults.HeaderForm offset) answer = answer ≡ bad header_form offset
IsFaultOfFile (faults.PlaneForm offset) answer = answer ≡ bad plane_form offset
IsFaultOfFile (faults.NodeOrder offset) answer = answer ≡ bad node_order offset
IsFaultOfFile (faults.LeafForm offset) answer = answer ≡ bad leaf_form offset
IsFaultOfFile (faults.RowForm offset) answer = answer ≡ bad row_form offset
IsFaultOfFile (faults.SectionForm offset) answer = answer ≡ bad section_form offset
IsFaultOfFile (faults.Trailing offset) answer = answer ≡ bad trailing offset
IsFaultOfFile (faults.TooLong offset) answer = answer ≡ bad too_long offset
IsFaultOfFile faults.Memory answer = Unit {0}

-- what is answered, seen as the value of a layout with the place where it ends, is what reading gives, unless memory ran out
abbrev pub AnswersTreeFile : {X Y : Type 0} → (X → Y) → (X → ℕ) → Result X FileFault → Decoded FileFaultKind Y → Type 0
AnswersTreeFile value next (Ok x) answer = answer ≡ got (value x) (next x)
AnswersTreeFile value next (Err fault) answer = IsFaultOfFile fault answer

-- what is answered of a field is what reading gives: its value with the place where it ends, or that the bytes end before
abbrev pub AnswersField : {X : Type 0} → Result (X × ℕ) CutOff → Decoded FileFaultKind X → Type 0
AnswersField (Ok read) answer = answer ≡ got read.0 read.1
AnswersField (Err cut) answer = answer ≡ bad short cut.offset
