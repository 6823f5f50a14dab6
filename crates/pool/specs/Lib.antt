pub mod View
pub mod Held
pub mod Spots
pub mod Pairings
