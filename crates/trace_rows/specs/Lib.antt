pub mod RowHelpers
