pub mod Equals
pub mod Lengths
pub mod Searches
pub mod Telling
pub mod Whole
