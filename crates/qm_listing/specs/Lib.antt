pub mod Numerals
pub mod Numbers
pub mod Grammar
pub mod WorldListing
pub mod inner
pub mod Turning
