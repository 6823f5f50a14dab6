pub mod Draws
pub mod Shuffle
