pub mod Constraints
pub mod ReadOff
pub mod FirstFailing
