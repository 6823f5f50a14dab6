pub mod Memory
pub mod Chain
pub mod Spares
pub mod Frames
pub mod Quota
