pub mod RawWords
pub mod Stages
pub mod BuiltTraces
pub mod JudgedFiles
pub mod Theorems
