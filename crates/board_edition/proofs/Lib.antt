pub mod Answers
pub mod Converters
