pub mod Commands
pub mod Transcript
