pub mod SpanLaws
pub mod Unique
