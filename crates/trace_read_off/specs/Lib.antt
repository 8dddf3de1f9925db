pub mod Answers
pub mod TapHelpers
