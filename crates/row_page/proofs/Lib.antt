pub mod Within
pub mod Found
pub mod Limits
pub mod Whole
pub mod Fits
