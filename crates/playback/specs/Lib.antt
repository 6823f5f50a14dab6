pub mod Format
pub mod Found
pub mod Playing
pub mod Text
