pub mod Geometry
pub mod Masks
pub mod State
pub mod Calls
pub mod Mesh
pub mod Sums
pub mod Runs
