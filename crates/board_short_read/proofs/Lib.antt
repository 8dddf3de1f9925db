pub mod Tests
pub mod Round
