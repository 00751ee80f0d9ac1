-- A fault of a part is the fault of the whole, where what reading gives passes from the one to the other.
use Rattle.qm_formats.specs.Layout.{Decoded}
use Rattle.qm_formats.specs.FileParts.{FileFaultKind, short, magic, counts, header_form, plane_form, node_order, leaf_form, row_form, section_form, trailing, too_long}
use Rattle.qm_formats.proofs.ReadLists.{PassesFault}
use Rattle.qm_file.specs.declared.file_fault.FileFault.{FileFault}
use Rattle.qm_file.specs.declared.file_fault.FileFault.TheVariants as faults
use Rattle.qm_file.specs.Answers.{IsFaultOfFile}

pub fault_passes : {X Y : Type 0} (fault : FileFault) {part : Decoded FileFaultKind X} {whole : Decoded FileFaultKind Y} → PassesFault part whole → IsFaultOfFile fault part → IsFaultOfFile fault whole
fault_passes (faults.Short offset) passes is = passes short offset is
fault_passes (faults.Magic offset) passes is = passes magic offset is
fault_passes (faults.Counts offset) passes is = passes counts offset is
fault_passes (faults.HeaderForm offset) passes is = passes header_form offset is
fault_passes (faults.PlaneForm offset) passes is = passes plane_form offset is
fault_passes (faults.NodeOrder offset) passes is = passes node_order offset is
fault_passes (faults.LeafForm offset) passes is = passes leaf_form offset is
fault_passes (faults.RowForm offset) passes is = passes row_form offset is
fault_passes (faults.SectionForm offset) passes is = passes section_form offset is
fault_passes (faults.Trailing offset) passes is = passes trailing offset is
fault_passes (faults.TooLong offset) passes is = passes too_long offset is
fault_passes faults.Memory passes is = tt
