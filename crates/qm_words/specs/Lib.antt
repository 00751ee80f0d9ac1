pub mod SeenWords
pub mod inner
