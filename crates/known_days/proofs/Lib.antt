pub mod Tables
pub mod Shift
pub mod KnownDays
pub mod Files
