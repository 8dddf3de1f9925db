pub mod Words
pub mod Elements
pub mod ElementHelpers
