pub mod MapModels
pub mod ModelBytes
