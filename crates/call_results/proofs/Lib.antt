pub mod Bits
pub mod Handed
