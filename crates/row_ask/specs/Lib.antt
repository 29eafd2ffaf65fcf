pub mod Remaining
pub mod Pages
pub mod Whole
