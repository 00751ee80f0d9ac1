pub mod ExactModels
pub mod KeptModels
pub mod WholeSections
pub mod ToldModels
pub mod ValidModels
pub mod WrittenModels
pub mod AscendingLeaves
pub mod FaultKinds
pub mod ModelFaults
mod ModelSamples
