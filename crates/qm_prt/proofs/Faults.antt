-- A fault of a part is the fault of the whole, where what reading gives passes from the one to the other.
use Rattle.qm_formats.specs.Layout.{Decoded}
use Rattle.qm_formats.proofs.ReadLists.{PassesFault}
use Rattle.qm_listing.specs.Grammar.{ListingFaultKind, header, number, shape, trailing}
use Rattle.qm_prt.specs.declared.prt_fault.PrtFault.{PrtFault}
use Rattle.qm_prt.specs.declared.prt_fault.PrtFault.TheVariants as faults
use Rattle.qm_prt.specs.Answers.{IsFaultOfListing}

pub fault_passes : {X Y : Type 0} (fault : PrtFault) {part : Decoded ListingFaultKind X} {whole : Decoded ListingFaultKind Y} → PassesFault part whole → IsFaultOfListing fault part → IsFaultOfListing fault whole
fault_passes (faults.Header offset) passes is = passes header offset is
fault_passes (faults.Number offset) passes is = passes number offset is
fault_passes (faults.Shape offset) passes is = passes shape offset is
fault_passes (faults.Trailing offset) passes is = passes trailing offset is
fault_passes faults.Memory passes is = tt
