pub mod FirstTaps
pub mod CodeChain
pub mod Answers
