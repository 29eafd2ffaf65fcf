pub mod Bounds
pub mod Fits
