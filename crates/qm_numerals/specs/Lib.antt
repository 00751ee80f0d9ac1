pub mod Number
pub mod Answer
pub mod Printed
pub mod Computed
pub mod inner
