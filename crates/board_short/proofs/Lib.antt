pub mod Answers
pub mod Files
pub mod Round
pub mod Theorems
