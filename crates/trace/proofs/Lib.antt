pub mod RowKinds
pub mod TraceCells
pub mod WrittenRows
pub mod WrittenHashes
pub mod Answers
pub mod Theorems
