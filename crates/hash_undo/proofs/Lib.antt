pub mod CodeRoots
pub mod Rounds
pub mod Taps
pub mod Answers
pub mod Theorems
