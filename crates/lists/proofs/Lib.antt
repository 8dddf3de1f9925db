pub mod Bools
pub mod Tab
pub mod First
pub mod Sum
pub mod Each
pub mod Stores
pub mod Made
