pub mod RowWords
pub mod WrittenFile
pub mod Faults
pub mod Unpacking
pub mod NumberedTest
pub mod Answered
pub mod FieldSamples
