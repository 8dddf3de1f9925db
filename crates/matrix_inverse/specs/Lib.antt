pub mod Inversion
pub mod EliminationHelpers
