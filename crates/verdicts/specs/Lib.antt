pub mod Apart
pub mod Hearing
pub mod Held
