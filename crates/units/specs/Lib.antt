pub mod Performance
pub mod Performed
pub mod Promises
