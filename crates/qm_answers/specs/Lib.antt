pub mod AllAnswers
pub mod Answers
pub mod AnswerText
pub mod CornerText
pub mod DecodedSections
pub mod Printable
pub mod SameAnswers
