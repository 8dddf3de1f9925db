pub mod RowWords
pub mod Unweighting
pub mod ReadyWords
pub mod Scaled
