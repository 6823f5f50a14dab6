pub mod Chains
pub mod Stretches
pub mod Steps
pub mod Rows
pub mod Limits
