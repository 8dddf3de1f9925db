pub mod ToFull
