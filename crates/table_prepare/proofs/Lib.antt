pub mod Prepared
pub mod Theorems
