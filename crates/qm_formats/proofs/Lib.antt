pub mod ReadRows
pub mod ReadParts
pub mod Standing
pub mod ExactParts
pub mod ReadToEnd
pub mod ShortFaults
pub mod ReadLists
pub mod ExactFields
pub mod PackedRows
pub mod ExactRows
pub mod ExactRecords
pub mod ExactFile
pub mod RightParts
pub mod RightSections
pub mod ChildNumbers
pub mod ValidFiles
pub mod WholeFile
pub mod ManyBytes
pub mod Cuttable
pub mod CutFields
pub mod CutRows
pub mod CutFiles
pub mod SectionBytes
pub mod UpgradedFiles
pub mod FirstVersions
pub mod InBytes
pub mod FileBytes
pub mod SizedRecords
pub mod RecordFaults
pub mod TreeFaults
pub mod FileFaults
mod FileSamples
mod CubeFileSamples
mod FaultSamples
