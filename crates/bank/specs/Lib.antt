pub mod Tables
pub mod Model
pub mod Sound
pub mod Laws
