pub mod Clipped
pub mod Lying
pub mod Split
pub mod Severing
pub mod Entered
pub mod inner
