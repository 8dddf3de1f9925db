pub mod Terms
pub mod Weights
pub mod Words
