pub mod Puts
pub mod Soundness
