pub mod Keeping
pub mod OpenToken
pub mod Accepting
pub mod Scanning
