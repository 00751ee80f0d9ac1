pub mod NormalLike
pub mod Outline
pub mod Below
pub mod Found
pub mod Narrowed
