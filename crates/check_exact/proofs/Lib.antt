pub mod Sound
pub mod ReadList
pub mod Built
pub mod InputRows
pub mod Exactness
