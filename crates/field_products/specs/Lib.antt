pub mod CellHelpers
