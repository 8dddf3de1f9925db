pub mod ToShort
