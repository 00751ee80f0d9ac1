-- A fault of a part is the fault of the whole, where what reading gives passes from the one to the other.
use Rattle.qm_formats.specs.Layout.{Decoded}
use Rattle.qm_formats.specs.FileParts.{FileFaultKind, short, section_form, trailing}
use Rattle.qm_formats.proofs.ReadLists.{PassesFault}
use Rattle.qm_face_file.specs.declared.faces_fault.FacesFault.{FacesFault}
use Rattle.qm_face_file.specs.declared.faces_fault.FacesFault.TheVariants as faults
use Rattle.qm_face_file.specs.Answers.{IsFaultOfFaces}

pub faces_fault_passes : {X Y : Type 0} (fault : FacesFault) {part : Decoded FileFaultKind X} {whole : Decoded FileFaultKind Y} → PassesFault part whole → IsFaultOfFaces fault part → IsFaultOfFaces fault whole
faces_fault_passes (faults.Short offset) passes is = passes short offset is
faces_fault_passes (faults.Form offset) passes is = passes section_form offset is
faces_fault_passes (faults.Trailing offset) passes is = passes trailing offset is
faces_fault_passes faults.Memory passes is = tt
