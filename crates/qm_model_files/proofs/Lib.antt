pub mod KeptModels
pub mod EachEntity
pub mod ModelLaws
