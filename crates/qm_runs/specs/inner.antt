pub mod NextPart
