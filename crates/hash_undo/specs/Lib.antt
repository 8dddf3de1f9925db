pub mod Unhash
pub mod Answers
