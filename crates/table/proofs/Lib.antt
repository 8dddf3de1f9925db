pub mod Parts
pub mod ReadyLaws
pub mod Tested
pub mod Theorems
