pub mod Trace
pub mod RowHelpers
pub mod Answers
