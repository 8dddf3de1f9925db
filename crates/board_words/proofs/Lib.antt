pub mod Shifts
pub mod Words
pub mod Laws
pub mod Tests
pub mod Round
