pub mod TestHelpers
