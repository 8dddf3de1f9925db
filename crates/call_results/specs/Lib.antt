pub mod Code
pub mod HandsOver
