pub mod PlainFiles
