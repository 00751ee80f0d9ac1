-- A fault of a part is the fault of the whole, where what reading gives passes from the one to the other.
use Rattle.qm_formats.specs.Layout.{Decoded}
use Rattle.qm_formats.specs.FileParts.{FileFaultKind, short, section_form, trailing}
use Rattle.qm_formats.proofs.ReadLists.{PassesFault}
use Rattle.qm_model_file.specs.declared.models_fault.ModelsFault.{ModelsFault}
use Rattle.qm_model_file.specs.declared.models_fault.ModelsFault.TheVariants as faults
use Rattle.qm_model_file.specs.Answers.{IsFaultOfModels}

pub models_fault_passes : {X Y : Type 0} (fault : ModelsFault) {part : Decoded FileFaultKind X} {whole : Decoded FileFaultKind Y} → PassesFault part whole → IsFaultOfModels fault part → IsFaultOfModels fault whole
models_fault_passes (faults.Short offset) passes is = passes short offset is
models_fault_passes (faults.Form offset) passes is = passes section_form offset is
models_fault_passes (faults.Trailing offset) passes is = passes trailing offset is
models_fault_passes faults.Memory passes is = tt
