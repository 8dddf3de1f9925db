pub mod States
pub mod Inputs
pub mod CodeStates
pub mod CodeMix
pub mod CodeInput
pub mod Answers
