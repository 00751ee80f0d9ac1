pub mod NextChild
pub mod NearNodes
