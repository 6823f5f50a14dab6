pub mod Views
pub mod Places
pub mod Bits
