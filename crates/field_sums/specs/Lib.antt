pub mod Sums
pub mod TermHelpers
