pub mod Nonzero
pub mod Turns
