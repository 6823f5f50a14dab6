pub mod Likeness
pub mod Book
pub mod Reading
pub mod Shape
pub mod Counts
pub mod Laws
