pub mod Boundary
pub mod Owner
pub mod Cutting
pub mod Surface
pub mod Covered
