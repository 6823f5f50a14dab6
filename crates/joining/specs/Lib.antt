pub mod Laws
pub mod Rows
pub mod Kinds
pub mod Masks
