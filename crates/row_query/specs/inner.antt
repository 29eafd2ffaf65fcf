pub mod Checks
pub mod Found
pub mod Bounds
