pub mod ComparedHelpers
pub mod SpanHelpers
