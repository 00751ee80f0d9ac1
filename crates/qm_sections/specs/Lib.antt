pub mod PartsOfMap
pub mod inner
