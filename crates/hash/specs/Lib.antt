pub mod Hash
pub mod Answers
pub mod HashHelpers
