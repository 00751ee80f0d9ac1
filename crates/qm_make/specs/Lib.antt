pub mod SeenFiles
pub mod StatusAndText
pub mod Workers
pub mod inner
