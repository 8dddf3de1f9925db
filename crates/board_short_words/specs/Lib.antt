pub mod MeasureHelpers
pub mod Short
