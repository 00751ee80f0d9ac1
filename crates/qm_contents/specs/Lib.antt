pub mod Codes
pub mod Precedence
pub mod Texture
