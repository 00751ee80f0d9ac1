pub mod WrittenBoxes
pub mod EachModel
pub mod WrittenLeaves
pub mod ModelSizes
pub mod ValidModelsOfMap
