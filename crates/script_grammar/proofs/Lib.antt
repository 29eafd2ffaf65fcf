pub mod Doubling
pub mod Selections
pub mod Bounds
