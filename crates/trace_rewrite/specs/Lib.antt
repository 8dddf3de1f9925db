pub mod Edit
pub mod EditHelpers
