pub mod ModelBoxes
pub mod TouchedLeaves
pub mod OutlinedSolids
pub mod ModelNumbers
pub mod AlikeModels
pub mod ShownModels
mod BoxSamples
