pub mod Days
pub mod Files
