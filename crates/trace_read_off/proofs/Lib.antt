pub mod ReadLaws
pub mod Answers
pub mod Theorems
