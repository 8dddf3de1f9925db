pub mod Differences
pub mod Scales
pub mod Made
