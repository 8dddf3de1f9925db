pub mod Elimination
pub mod Rows
pub mod Steps
pub mod Inversion
