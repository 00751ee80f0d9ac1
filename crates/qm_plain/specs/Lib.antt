pub mod PlainFile
