pub mod Altered
pub mod Rewriting
